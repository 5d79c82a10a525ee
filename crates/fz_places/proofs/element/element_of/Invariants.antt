use Rattle.std.proofs.Common.{◌≡◌, drop, map}
use Rattle.fz_meaning.specs.Meaning.{first_some}
use Rattle.fz_tree.specs.View.{bare_decl}
use Rattle.fz_places.specs.Elements.{element_in}
use Rattle.fz_places.proofs.element.element_of.Given as goal

abbrev pub invariant-loop-decl : goal.invariant-loop-decl
invariant-loop-decl l = first_some (element_in l.name) (map bare_decl l.decl-items) ≡ first_some (element_in l.name) (map bare_decl (drop l.decl-index l.decl-items))
