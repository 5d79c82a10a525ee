use Rattle.std.proofs.Common.{◌≡◌, map, drop}
use Rattle.fz_filling.specs.of_model.Slots.{scalar_term}
use Rattle.fz_explain.specs.Sources.{with_terms}
use Rattle.fz_explain.proofs.variables.add_all.Given as goal

abbrev pub invariant-loop-scalar : goal.invariant-loop-scalar
invariant-loop-scalar l = with_terms l.fn.variables.keys (map scalar_term l.scalars) ≡ with_terms l.variables.keys (map scalar_term (drop l.scalar-index l.scalars))
