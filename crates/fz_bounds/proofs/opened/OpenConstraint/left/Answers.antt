use Rattle.fz_store.specs.declared.Builtin.TheVariants as builtin
use Rattle.fz_bounds.proofs.Shares.{of_row}
use Rattle.fz_bounds.proofs.opened.OpenConstraint.left.Goals as goal

pub returns-in-IntLe : goal.returns-in-IntLe
returns-in-IntLe c = of_row c.args.self.now c.args.known builtin.IntLe c.left_by_order.result c.in-Base.is c.in-IntLe.is c.left_by_order.ensures

pub returns-in-IntLinEq : goal.returns-in-IntLinEq
returns-in-IntLinEq c = of_row c.args.self.now c.args.known builtin.IntLinEq c.left_by_equation.result c.in-Base.is c.in-IntLinEq.is c.left_by_equation.ensures

pub returns-in-IntLinLe : goal.returns-in-IntLinLe
returns-in-IntLinLe c = of_row c.args.self.now c.args.known builtin.IntLinLe c.left_by_sum.result c.in-Base.is c.in-IntLinLe.is c.left_by_sum.ensures

pub returns-in-IntTimes : goal.returns-in-IntTimes
returns-in-IntTimes c = of_row c.args.self.now c.args.known builtin.IntTimes c.left_by_product.result c.in-Base.is c.in-IntTimes.is c.left_by_product.ensures
