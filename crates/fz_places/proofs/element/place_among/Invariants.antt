use Rattle.std.proofs.Common.{◌≡◌, drop}
use Rattle.std.specs.List.{position_from}
use Rattle.fz_tree.specs.View.{bare_expressions}
use Rattle.fz_places.specs.Elements.{is_name}
use Rattle.fz_places.proofs.element.place_among.Given as goal

abbrev pub invariant-loop-place : goal.invariant-loop-place
invariant-loop-place l = position_from (is_name l.name) 0 (bare_expressions l.elements) ≡ position_from (is_name l.name) l.place (bare_expressions (drop l.place l.elements))
