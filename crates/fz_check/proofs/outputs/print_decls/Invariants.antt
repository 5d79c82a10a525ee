use Rattle.std.proofs.Common.{◌≡◌, map}
use Rattle.fz_search.specs.of_model.View.{located_decl}
use Rattle.fz_check.specs.Outputs.{printed_decl}
use Rattle.fz_check.proofs.Fronts.{turned}
use Rattle.fz_check.proofs.outputs.print_decls.Given as goal

abbrev pub invariant-loop-decl : goal.invariant-loop-decl
invariant-loop-decl l = map located_decl l.decls ≡ turned printed_decl l.decl-index (map located_decl l.fn.decls)
