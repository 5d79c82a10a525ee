use Rattle.std.proofs.Common.{◌≡◌, ◌-◌, drop, length, map, Some}
use Rattle.fz_tree.specs.View.{bare_basic, basic_list}
use Rattle.fz_places.specs.Elements.{indices_in}
use Rattle.fz_places.proofs.element.indices_at.Given as goal

abbrev pub invariant-loop-behind : goal.invariant-loop-behind
invariant-loop-behind l = indices_in (basic_list (map bare_basic (drop (length l.sets - l.behind) l.sets))) l.fn.place ≡ Some (l.left, l.indices.items)
