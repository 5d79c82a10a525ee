use Rattle.std.proofs.Common.{pos, rules}
use Rattle.std.proofs.lemmas.Bool.{and_left, and_right}
use Rattle.fz_model.specs.Relations.{as_places, leads_back}
use Rattle.fz_model.specs.of_builtins.of_kernel.Given.{int_at, ints_at}
use Rattle.fz_bounds.specs.Within.{given}
use Rattle.fz_bounds.proofs.bounded.BoundedConstraint.are_inverse.Goals as goal

pub returns-then-leads_elsewhere : goal.returns-then-leads_elsewhere
returns-then-leads_elsewhere c = λ K f g h k. and_left _ _ (c.leads_elsewhere.ensures (search rules) K f g h k)

pub returns-then-leads_elsewhere-2 : goal.returns-then-leads_elsewhere-2
returns-then-leads_elsewhere-2 c = λ K f g h k. and_right _ _ (c.leads_elsewhere-2.ensures (search rules) K h k f g)
