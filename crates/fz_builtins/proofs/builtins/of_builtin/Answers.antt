use Rattle.std.proofs.Common.{rules, ap, ◌∙◌}
use Rattle.fz_globals.specs.of_meaning.Builtins.{row_at}
use Rattle.fz_builtins.specs.declared.outcome.Outcome.TheVariants.{Truth}
use Rattle.fz_builtins.specs.Outcomes.{row_outcome}
use Rattle.fz_builtins.proofs.RowTests.{one_sum}
use Rattle.fz_builtins.proofs.builtins.of_builtin.Goals as goal

pub returns-in-BoolClause : goal.returns-in-BoolClause
unfolding row_outcome row_at
returns-in-BoolClause c = rw c.in-BoolClause.is (ap Truth c.bool_clause.ensures)

pub returns-in-IntLinEq : goal.returns-in-IntLinEq
unfolding row_outcome row_at
returns-in-IntLinEq c = rw c.in-IntLinEq.is (c.int_lin_eq.ensures ∙ one_sum _ _)

pub returns-in-IntLinNe : goal.returns-in-IntLinNe
unfolding row_outcome row_at
returns-in-IntLinNe c = rw c.in-IntLinNe.is (c.int_lin_ne.ensures ∙ one_sum _ _)

pub returns-in-IntLinLe : goal.returns-in-IntLinLe
unfolding row_outcome row_at
returns-in-IntLinLe c = rw c.in-IntLinLe.is (c.int_lin_le.ensures ∙ one_sum _ _)

pub returns-in-IntNe : goal.returns-in-IntNe
unfolding row_outcome row_at
returns-in-IntNe c = rw c.in-IntNe.is (ap Truth (search rules))

pub returns-in-IntLe : goal.returns-in-IntLe
unfolding row_outcome row_at
returns-in-IntLe c = rw c.in-IntLe.is (ap Truth (search rules))

pub returns-in-IntLt : goal.returns-in-IntLt
unfolding row_outcome row_at
returns-in-IntLt c = rw c.in-IntLt.is (ap Truth (search rules))
