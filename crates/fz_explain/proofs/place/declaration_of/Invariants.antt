use Rattle.std.proofs.Common.{◌≡◌, drop, map}
use Rattle.fz_filling.specs.of_model.Names.{declaration}
use Rattle.fz_filling.specs.of_model.View.{located_decl}
use Rattle.fz_explain.proofs.place.declaration_of.Given as goal

abbrev pub invariant-loop-decl : goal.invariant-loop-decl
invariant-loop-decl l = declaration (map located_decl l.decl-items) l.name ≡ declaration (map located_decl (drop l.decl-index l.decl-items)) l.name
