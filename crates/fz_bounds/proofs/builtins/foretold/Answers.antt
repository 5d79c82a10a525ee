use Rattle.std.proofs.Common.{false, int_le, length, map, not, pos, subst, sym, true, unsigned_abs, ◌&&◌, ◌+ℤ◌, ◌-ℤ◌, ◌*ℤ◌, ◌||◌}
use Rattle.std.specs.Int.{int_max, int_min}
use Rattle.std.specs.List.{list_all, list_any, zip}
use Rattle.fz_store.specs.declared.Builtin.TheVariants as builtin
use Rattle.fz_model.specs.Builtins.{row_at}
use Rattle.fz_model.specs.Relations.{all_pairs, as_number, count_in, count_of, counts_are, counts_lie, is_among, is_closed, last_naturally, lies_between, loads_are, products, total, where_true, ◌=ᴮ◌, ◌=ℤ◌}
use Rattle.fz_model.specs.of_builtins.of_kernel.Given.{bool_at, bools_at, int_at, ints_at, set_at}
use Rattle.fz_bounds.specs.Decided.{Decides}
use Rattle.fz_bounds.specs.Spans.{keep_apart}
use Rattle.fz_bounds.specs.Within.{given}
use Rattle.fz_bounds.proofs.At.{at_row}
use Rattle.fz_bounds.proofs.Comparing.{comes, truths_come}
use Rattle.fz_bounds.proofs.builtins.foretold.Goals as goal

pub returns-in-IntEq : goal.returns-in-IntEq
unfolding row_at
returns-in-IntEq c = at_row c.args.at.now c.args.builtin builtin.IntEq c.equal.result c.in-IntEq.is (λ K h.
    let xs = given c.args.at.now in
    c.equal.ensures (int_at K xs 0) (int_at K xs 1) (c.number.ensures K (record { low = h.low.0; high = h.high.0 })) (c.number-in-IntEq.ensures K (record { low = h.low.1.0; high = h.high.1.0 })))

pub returns-in-IntNe : goal.returns-in-IntNe
unfolding row_at
returns-in-IntNe c = at_row c.args.at.now c.args.builtin builtin.IntNe c.negated.result c.in-IntNe.is (λ K h.
    let xs = given c.args.at.now in
    c.negated.ensures ((int_at K xs 0) =ℤ (int_at K xs 1)) (c.equal-in-IntNe.ensures (int_at K xs 0) (int_at K xs 1) (c.number-in-IntNe.ensures K (record { low = h.low.0; high = h.high.0 })) (c.number-in-IntNe-2.ensures K (record { low = h.low.1.0; high = h.high.1.0 }))))

pub returns-in-IntLe : goal.returns-in-IntLe
unfolding row_at
returns-in-IntLe c = at_row c.args.at.now c.args.builtin builtin.IntLe c.at_most.result c.in-IntLe.is (λ K h.
    let xs = given c.args.at.now in
    c.at_most.ensures (int_at K xs 0) (int_at K xs 1) (c.number-in-IntLe.ensures K (record { low = h.low.0; high = h.high.0 })) (c.number-in-IntLe-2.ensures K (record { low = h.low.1.0; high = h.high.1.0 })))

pub returns-in-IntLt : goal.returns-in-IntLt
unfolding row_at
returns-in-IntLt c = at_row c.args.at.now c.args.builtin builtin.IntLt c.below.result c.in-IntLt.is (λ K h.
    let xs = given c.args.at.now in
    c.below.ensures (int_at K xs 0) (int_at K xs 1) (c.number-in-IntLt.ensures K (record { low = h.low.0; high = h.high.0 })) (c.number-in-IntLt-2.ensures K (record { low = h.low.1.0; high = h.high.1.0 })))

pub returns-in-IntGe : goal.returns-in-IntGe
unfolding row_at
returns-in-IntGe c = at_row c.args.at.now c.args.builtin builtin.IntGe c.at_most-in-IntGe.result c.in-IntGe.is (λ K h.
    let xs = given c.args.at.now in
    c.at_most-in-IntGe.ensures (int_at K xs 1) (int_at K xs 0) (c.number-in-IntGe.ensures K (record { low = h.low.1.0; high = h.high.1.0 })) (c.number-in-IntGe-2.ensures K (record { low = h.low.0; high = h.high.0 })))

pub returns-in-IntGt : goal.returns-in-IntGt
unfolding row_at
returns-in-IntGt c = at_row c.args.at.now c.args.builtin builtin.IntGt c.below-in-IntGt.result c.in-IntGt.is (λ K h.
    let xs = given c.args.at.now in
    c.below-in-IntGt.ensures (int_at K xs 1) (int_at K xs 0) (c.number-in-IntGt.ensures K (record { low = h.low.1.0; high = h.high.1.0 })) (c.number-in-IntGt-2.ensures K (record { low = h.low.0; high = h.high.0 })))

pub returns-in-IntPlus : goal.returns-in-IntPlus
unfolding row_at
returns-in-IntPlus c = at_row c.args.at.now c.args.builtin builtin.IntPlus c.equal-in-IntPlus.result c.in-IntPlus.is (λ K h.
    let xs = given c.args.at.now in
    c.equal-in-IntPlus.ensures (int_at K xs 2) ((int_at K xs 0) +ℤ (int_at K xs 1)) (c.number-in-IntPlus.ensures K (record { low = h.low.1.1.0; high = h.high.1.1.0 })) (c.plus.ensures (int_at K xs 0) (int_at K xs 1) (c.number-in-IntPlus-2.ensures K (record { low = h.low.0; high = h.high.0 })) (c.number-in-IntPlus-3.ensures K (record { low = h.low.1.0; high = h.high.1.0 }))))

pub returns-in-IntMinus : goal.returns-in-IntMinus
unfolding row_at
returns-in-IntMinus c = at_row c.args.at.now c.args.builtin builtin.IntMinus c.equal-in-IntMinus.result c.in-IntMinus.is (λ K h.
    let xs = given c.args.at.now in
    c.equal-in-IntMinus.ensures (int_at K xs 2) ((int_at K xs 0) -ℤ (int_at K xs 1)) (c.number-in-IntMinus.ensures K (record { low = h.low.1.1.0; high = h.high.1.1.0 })) (c.minus.ensures (int_at K xs 0) (int_at K xs 1) (c.number-in-IntMinus-2.ensures K (record { low = h.low.0; high = h.high.0 })) (c.number-in-IntMinus-3.ensures K (record { low = h.low.1.0; high = h.high.1.0 }))))

pub returns-in-IntNegate : goal.returns-in-IntNegate
unfolding row_at
returns-in-IntNegate c = at_row c.args.at.now c.args.builtin builtin.IntNegate c.equal-in-IntNegate.result c.in-IntNegate.is (λ K h.
    let xs = given c.args.at.now in
    c.equal-in-IntNegate.ensures (int_at K xs 1) (pos 0 -ℤ (int_at K xs 0)) (c.number-in-IntNegate.ensures K (record { low = h.low.1.0; high = h.high.1.0 })) (c.negated-in-IntNegate.ensures (int_at K xs 0) (c.number-in-IntNegate-2.ensures K (record { low = h.low.0; high = h.high.0 }))))

pub returns-in-BoolEq : goal.returns-in-BoolEq
unfolding row_at
returns-in-BoolEq c = at_row c.args.at.now c.args.builtin builtin.BoolEq c.same.result c.in-BoolEq.is (λ K h.
    let xs = given c.args.at.now in
    c.same.ensures (bool_at K xs 0) (bool_at K xs 1) (c.truth.ensures K (record { low = h.low.0; high = h.high.0 })) (c.truth-in-BoolEq.ensures K (record { low = h.low.1.0; high = h.high.1.0 })))

pub returns-in-BoolLe : goal.returns-in-BoolLe
unfolding row_at
returns-in-BoolLe c = at_row c.args.at.now c.args.builtin builtin.BoolLe c.or.result c.in-BoolLe.is (λ K h.
    let xs = given c.args.at.now in
    c.or.ensures (not (bool_at K xs 0)) (bool_at K xs 1) (c.negated-in-BoolLe.ensures (bool_at K xs 0) (c.truth-in-BoolLe.ensures K (record { low = h.low.0; high = h.high.0 }))) (c.truth-in-BoolLe-2.ensures K (record { low = h.low.1.0; high = h.high.1.0 })))

pub returns-in-BoolLt : goal.returns-in-BoolLt
unfolding row_at
returns-in-BoolLt c = at_row c.args.at.now c.args.builtin builtin.BoolLt c.and.result c.in-BoolLt.is (λ K h.
    let xs = given c.args.at.now in
    c.and.ensures (not (bool_at K xs 0)) (bool_at K xs 1) (c.negated-in-BoolLt.ensures (bool_at K xs 0) (c.truth-in-BoolLt.ensures K (record { low = h.low.0; high = h.high.0 }))) (c.truth-in-BoolLt-2.ensures K (record { low = h.low.1.0; high = h.high.1.0 })))

pub returns-in-BoolGe : goal.returns-in-BoolGe
unfolding row_at
returns-in-BoolGe c = at_row c.args.at.now c.args.builtin builtin.BoolGe c.or-in-BoolGe.result c.in-BoolGe.is (λ K h.
    let xs = given c.args.at.now in
    c.or-in-BoolGe.ensures (not (bool_at K xs 1)) (bool_at K xs 0) (c.negated-in-BoolGe.ensures (bool_at K xs 1) (c.truth-in-BoolGe.ensures K (record { low = h.low.1.0; high = h.high.1.0 }))) (c.truth-in-BoolGe-2.ensures K (record { low = h.low.0; high = h.high.0 })))

pub returns-in-BoolGt : goal.returns-in-BoolGt
unfolding row_at
returns-in-BoolGt c = at_row c.args.at.now c.args.builtin builtin.BoolGt c.and-in-BoolGt.result c.in-BoolGt.is (λ K h.
    let xs = given c.args.at.now in
    c.and-in-BoolGt.ensures (not (bool_at K xs 1)) (bool_at K xs 0) (c.negated-in-BoolGt.ensures (bool_at K xs 1) (c.truth-in-BoolGt.ensures K (record { low = h.low.1.0; high = h.high.1.0 }))) (c.truth-in-BoolGt-2.ensures K (record { low = h.low.0; high = h.high.0 })))

pub returns-in-BoolNot : goal.returns-in-BoolNot
unfolding row_at
returns-in-BoolNot c = at_row c.args.at.now c.args.builtin builtin.BoolNot c.negated-in-BoolNot.result c.in-BoolNot.is (λ K h.
    let xs = given c.args.at.now in
    c.negated-in-BoolNot.ensures ((bool_at K xs 0) =ᴮ (bool_at K xs 1)) (c.same-in-BoolNot.ensures (bool_at K xs 0) (bool_at K xs 1) (c.truth-in-BoolNot.ensures K (record { low = h.low.0; high = h.high.0 })) (c.truth-in-BoolNot-2.ensures K (record { low = h.low.1.0; high = h.high.1.0 }))))

pub returns-in-BoolAnd : goal.returns-in-BoolAnd
unfolding row_at
returns-in-BoolAnd c = at_row c.args.at.now c.args.builtin builtin.BoolAnd c.same-in-BoolAnd.result c.in-BoolAnd.is (λ K h.
    let xs = given c.args.at.now in
    c.same-in-BoolAnd.ensures (bool_at K xs 2) ((bool_at K xs 0) && (bool_at K xs 1)) (c.truth-in-BoolAnd.ensures K (record { low = h.low.1.1.0; high = h.high.1.1.0 })) (c.and-in-BoolAnd.ensures (bool_at K xs 0) (bool_at K xs 1) (c.truth-in-BoolAnd-2.ensures K (record { low = h.low.0; high = h.high.0 })) (c.truth-in-BoolAnd-3.ensures K (record { low = h.low.1.0; high = h.high.1.0 }))))

pub returns-in-BoolOr : goal.returns-in-BoolOr
unfolding row_at
returns-in-BoolOr c = at_row c.args.at.now c.args.builtin builtin.BoolOr c.same-in-BoolOr.result c.in-BoolOr.is (λ K h.
    let xs = given c.args.at.now in
    c.same-in-BoolOr.ensures (bool_at K xs 2) ((bool_at K xs 0) || (bool_at K xs 1)) (c.truth-in-BoolOr.ensures K (record { low = h.low.1.1.0; high = h.high.1.1.0 })) (c.or-in-BoolOr.ensures (bool_at K xs 0) (bool_at K xs 1) (c.truth-in-BoolOr-2.ensures K (record { low = h.low.0; high = h.high.0 })) (c.truth-in-BoolOr-3.ensures K (record { low = h.low.1.0; high = h.high.1.0 }))))

pub returns-in-BoolXor : goal.returns-in-BoolXor
unfolding row_at
returns-in-BoolXor c = at_row c.args.at.now c.args.builtin builtin.BoolXor c.same-in-BoolXor-2.result c.in-BoolXor.is (λ K h.
    let xs = given c.args.at.now in
    c.same-in-BoolXor-2.ensures (bool_at K xs 2) (not ((bool_at K xs 0) =ᴮ (bool_at K xs 1))) (c.truth-in-BoolXor.ensures K (record { low = h.low.1.1.0; high = h.high.1.1.0 })) (c.negated-in-BoolXor.ensures ((bool_at K xs 0) =ᴮ (bool_at K xs 1)) (c.same-in-BoolXor.ensures (bool_at K xs 0) (bool_at K xs 1) (c.truth-in-BoolXor-2.ensures K (record { low = h.low.0; high = h.high.0 })) (c.truth-in-BoolXor-3.ensures K (record { low = h.low.1.0; high = h.high.1.0 })))))

pub returns-in-BoolAndImp : goal.returns-in-BoolAndImp
unfolding row_at
returns-in-BoolAndImp c = at_row c.args.at.now c.args.builtin builtin.BoolAndImp c.or-in-BoolAndImp.result c.in-BoolAndImp.is (λ K h.
    let xs = given c.args.at.now in
    c.or-in-BoolAndImp.ensures (not (bool_at K xs 2)) ((bool_at K xs 0) && (bool_at K xs 1)) (c.negated-in-BoolAndImp.ensures (bool_at K xs 2) (c.truth-in-BoolAndImp.ensures K (record { low = h.low.1.1.0; high = h.high.1.1.0 }))) (c.and-in-BoolAndImp.ensures (bool_at K xs 0) (bool_at K xs 1) (c.truth-in-BoolAndImp-2.ensures K (record { low = h.low.0; high = h.high.0 })) (c.truth-in-BoolAndImp-3.ensures K (record { low = h.low.1.0; high = h.high.1.0 }))))

pub returns-in-BoolOrImp : goal.returns-in-BoolOrImp
unfolding row_at
returns-in-BoolOrImp c = at_row c.args.at.now c.args.builtin builtin.BoolOrImp c.or-in-BoolOrImp-2.result c.in-BoolOrImp.is (λ K h.
    let xs = given c.args.at.now in
    c.or-in-BoolOrImp-2.ensures (not (bool_at K xs 2)) ((bool_at K xs 0) || (bool_at K xs 1)) (c.negated-in-BoolOrImp.ensures (bool_at K xs 2) (c.truth-in-BoolOrImp.ensures K (record { low = h.low.1.1.0; high = h.high.1.1.0 }))) (c.or-in-BoolOrImp.ensures (bool_at K xs 0) (bool_at K xs 1) (c.truth-in-BoolOrImp-2.ensures K (record { low = h.low.0; high = h.high.0 })) (c.truth-in-BoolOrImp-3.ensures K (record { low = h.low.1.0; high = h.high.1.0 }))))

pub returns-in-BoolXorImp : goal.returns-in-BoolXorImp
unfolding row_at
returns-in-BoolXorImp c = at_row c.args.at.now c.args.builtin builtin.BoolXorImp c.or-in-BoolXorImp.result c.in-BoolXorImp.is (λ K h.
    let xs = given c.args.at.now in
    c.or-in-BoolXorImp.ensures (not (bool_at K xs 2)) (not ((bool_at K xs 0) =ᴮ (bool_at K xs 1))) (c.negated-in-BoolXorImp.ensures (bool_at K xs 2) (c.truth-in-BoolXorImp.ensures K (record { low = h.low.1.1.0; high = h.high.1.1.0 }))) (c.negated-in-BoolXorImp-2.ensures ((bool_at K xs 0) =ᴮ (bool_at K xs 1)) (c.same-in-BoolXorImp.ensures (bool_at K xs 0) (bool_at K xs 1) (c.truth-in-BoolXorImp-2.ensures K (record { low = h.low.0; high = h.high.0 })) (c.truth-in-BoolXorImp-3.ensures K (record { low = h.low.1.0; high = h.high.1.0 })))))

pub returns-in-ArrayBoolAnd : goal.returns-in-ArrayBoolAnd
unfolding row_at
returns-in-ArrayBoolAnd c = at_row c.args.at.now c.args.builtin builtin.ArrayBoolAnd c.same-in-ArrayBoolAnd.result c.in-ArrayBoolAnd.is (λ K h.
    let xs = given c.args.at.now in
    c.same-in-ArrayBoolAnd.ensures (bool_at K xs 1) (list_all (λ x. x) (bools_at K xs 0)) (c.truth-in-ArrayBoolAnd.ensures K (record { low = h.low.1.0; high = h.high.1.0 })) (c.all_true.ensures K (record { low = h.low.0; high = h.high.0 })))

pub returns-in-ArrayBoolOr : goal.returns-in-ArrayBoolOr
unfolding row_at
returns-in-ArrayBoolOr c = at_row c.args.at.now c.args.builtin builtin.ArrayBoolOr c.same-in-ArrayBoolOr.result c.in-ArrayBoolOr.is (λ K h.
    let xs = given c.args.at.now in
    c.same-in-ArrayBoolOr.ensures (bool_at K xs 1) (list_any (λ x. x) (bools_at K xs 0)) (c.truth-in-ArrayBoolOr.ensures K (record { low = h.low.1.0; high = h.high.1.0 })) (c.any_true.ensures K (record { low = h.low.0; high = h.high.0 })))

pub returns-in-ArrayBoolAndImp : goal.returns-in-ArrayBoolAndImp
unfolding row_at
returns-in-ArrayBoolAndImp c = at_row c.args.at.now c.args.builtin builtin.ArrayBoolAndImp c.or-in-ArrayBoolAndImp.result c.in-ArrayBoolAndImp.is (λ K h.
    let xs = given c.args.at.now in
    c.or-in-ArrayBoolAndImp.ensures (not (bool_at K xs 1)) (list_all (λ x. x) (bools_at K xs 0)) (c.negated-in-ArrayBoolAndImp.ensures (bool_at K xs 1) (c.truth-in-ArrayBoolAndImp.ensures K (record { low = h.low.1.0; high = h.high.1.0 }))) (c.all_true-in-ArrayBoolAndImp.ensures K (record { low = h.low.0; high = h.high.0 })))

pub returns-in-ArrayBoolOrImp : goal.returns-in-ArrayBoolOrImp
unfolding row_at
returns-in-ArrayBoolOrImp c = at_row c.args.at.now c.args.builtin builtin.ArrayBoolOrImp c.or-in-ArrayBoolOrImp.result c.in-ArrayBoolOrImp.is (λ K h.
    let xs = given c.args.at.now in
    c.or-in-ArrayBoolOrImp.ensures (not (bool_at K xs 1)) (list_any (λ x. x) (bools_at K xs 0)) (c.negated-in-ArrayBoolOrImp.ensures (bool_at K xs 1) (c.truth-in-ArrayBoolOrImp.ensures K (record { low = h.low.1.0; high = h.high.1.0 }))) (c.any_true-in-ArrayBoolOrImp.ensures K (record { low = h.low.0; high = h.high.0 })))

pub returns-in-BoolClause : goal.returns-in-BoolClause
unfolding row_at
returns-in-BoolClause c = at_row c.args.at.now c.args.builtin builtin.BoolClause c.or-in-BoolClause.result c.in-BoolClause.is (λ K h.
    let xs = given c.args.at.now in
    c.or-in-BoolClause.ensures (list_any (λ x. x) (bools_at K xs 0)) (list_any (λ x. not x) (bools_at K xs 1)) (c.any_true-in-BoolClause.ensures K (record { low = h.low.0; high = h.high.0 })) (c.any_false.ensures K (record { low = h.low.1.0; high = h.high.1.0 })))

pub returns-in-Bool2Int : goal.returns-in-Bool2Int
unfolding row_at
returns-in-Bool2Int c = at_row c.args.at.now c.args.builtin builtin.Bool2Int c.equal-in-Bool2Int.result c.in-Bool2Int.is (λ K h.
    let xs = given c.args.at.now in
    c.equal-in-Bool2Int.ensures (int_at K xs 1) (as_number (bool_at K xs 0)) (c.number-in-Bool2Int.ensures K (record { low = h.low.1.0; high = h.high.1.0 })) (c.number-in-Bool2Int-2.ensures (bool_at K xs 0) (c.truth-in-Bool2Int.ensures K (record { low = h.low.0; high = h.high.0 }))))

pub returns-in-IntLinEq : goal.returns-in-IntLinEq
unfolding row_at
returns-in-IntLinEq c = at_row c.args.at.now c.args.builtin builtin.IntLinEq c.equal-in-IntLinEq.result c.in-IntLinEq.is (λ K h.
    let xs = given c.args.at.now in
    c.equal-in-IntLinEq.ensures (total (products (ints_at K xs 0) (ints_at K xs 1))) (int_at K xs 2) (c.sum_of_products.ensures K (record { low = h.low.0; high = h.high.0 }) (record { low = h.low.1.0; high = h.high.1.0 })) (c.number-in-IntLinEq.ensures K (record { low = h.low.1.1.0; high = h.high.1.1.0 })))

pub returns-in-IntLinNe : goal.returns-in-IntLinNe
unfolding row_at
returns-in-IntLinNe c = at_row c.args.at.now c.args.builtin builtin.IntLinNe c.negated-in-IntLinNe.result c.in-IntLinNe.is (λ K h.
    let xs = given c.args.at.now in
    c.negated-in-IntLinNe.ensures ((total (products (ints_at K xs 0) (ints_at K xs 1))) =ℤ (int_at K xs 2)) (c.equal-in-IntLinNe.ensures (total (products (ints_at K xs 0) (ints_at K xs 1))) (int_at K xs 2) (c.sum_of_products-in-IntLinNe.ensures K (record { low = h.low.0; high = h.high.0 }) (record { low = h.low.1.0; high = h.high.1.0 })) (c.number-in-IntLinNe.ensures K (record { low = h.low.1.1.0; high = h.high.1.1.0 }))))

pub returns-in-IntLinLe : goal.returns-in-IntLinLe
unfolding row_at
returns-in-IntLinLe c = at_row c.args.at.now c.args.builtin builtin.IntLinLe c.at_most-in-IntLinLe.result c.in-IntLinLe.is (λ K h.
    let xs = given c.args.at.now in
    c.at_most-in-IntLinLe.ensures (total (products (ints_at K xs 0) (ints_at K xs 1))) (int_at K xs 2) (c.sum_of_products-in-IntLinLe.ensures K (record { low = h.low.0; high = h.high.0 }) (record { low = h.low.1.0; high = h.high.1.0 })) (c.number-in-IntLinLe.ensures K (record { low = h.low.1.1.0; high = h.high.1.1.0 })))

pub returns-in-BoolLinEq : goal.returns-in-BoolLinEq
unfolding row_at
returns-in-BoolLinEq c = at_row c.args.at.now c.args.builtin builtin.BoolLinEq c.equal-in-BoolLinEq.result c.in-BoolLinEq.is (λ K h.
    let xs = given c.args.at.now in
    c.equal-in-BoolLinEq.ensures (total (where_true (ints_at K xs 0) (bools_at K xs 1))) (int_at K xs 2) (c.sum_where_true.ensures K (record { low = h.low.0; high = h.high.0 }) (record { low = h.low.1.0; high = h.high.1.0 })) (c.number-in-BoolLinEq.ensures K (record { low = h.low.1.1.0; high = h.high.1.1.0 })))

pub returns-in-BoolLinNe : goal.returns-in-BoolLinNe
unfolding row_at
returns-in-BoolLinNe c = at_row c.args.at.now c.args.builtin builtin.BoolLinNe c.negated-in-BoolLinNe.result c.in-BoolLinNe.is (λ K h.
    let xs = given c.args.at.now in
    c.negated-in-BoolLinNe.ensures ((total (where_true (ints_at K xs 0) (bools_at K xs 1))) =ℤ (int_at K xs 2)) (c.equal-in-BoolLinNe.ensures (total (where_true (ints_at K xs 0) (bools_at K xs 1))) (int_at K xs 2) (c.sum_where_true-in-BoolLinNe.ensures K (record { low = h.low.0; high = h.high.0 }) (record { low = h.low.1.0; high = h.high.1.0 })) (c.number-in-BoolLinNe.ensures K (record { low = h.low.1.1.0; high = h.high.1.1.0 }))))

pub returns-in-BoolLinLe : goal.returns-in-BoolLinLe
unfolding row_at
returns-in-BoolLinLe c = at_row c.args.at.now c.args.builtin builtin.BoolLinLe c.at_most-in-BoolLinLe.result c.in-BoolLinLe.is (λ K h.
    let xs = given c.args.at.now in
    c.at_most-in-BoolLinLe.ensures (total (where_true (ints_at K xs 0) (bools_at K xs 1))) (int_at K xs 2) (c.sum_where_true-in-BoolLinLe.ensures K (record { low = h.low.0; high = h.high.0 }) (record { low = h.low.1.0; high = h.high.1.0 })) (c.number-in-BoolLinLe.ensures K (record { low = h.low.1.1.0; high = h.high.1.1.0 })))

pub returns-in-BoolLinLt : goal.returns-in-BoolLinLt
unfolding row_at
returns-in-BoolLinLt c = at_row c.args.at.now c.args.builtin builtin.BoolLinLt c.below-in-BoolLinLt.result c.in-BoolLinLt.is (λ K h.
    let xs = given c.args.at.now in
    c.below-in-BoolLinLt.ensures (total (where_true (ints_at K xs 0) (bools_at K xs 1))) (int_at K xs 2) (c.sum_where_true-in-BoolLinLt.ensures K (record { low = h.low.0; high = h.high.0 }) (record { low = h.low.1.0; high = h.high.1.0 })) (c.number-in-BoolLinLt.ensures K (record { low = h.low.1.1.0; high = h.high.1.1.0 })))

pub returns-in-BoolLinGe : goal.returns-in-BoolLinGe
unfolding row_at
returns-in-BoolLinGe c = at_row c.args.at.now c.args.builtin builtin.BoolLinGe c.at_most-in-BoolLinGe.result c.in-BoolLinGe.is (λ K h.
    let xs = given c.args.at.now in
    c.at_most-in-BoolLinGe.ensures (int_at K xs 2) (total (where_true (ints_at K xs 0) (bools_at K xs 1))) (c.number-in-BoolLinGe.ensures K (record { low = h.low.1.1.0; high = h.high.1.1.0 })) (c.sum_where_true-in-BoolLinGe.ensures K (record { low = h.low.0; high = h.high.0 }) (record { low = h.low.1.0; high = h.high.1.0 })))

pub returns-in-BoolLinGt : goal.returns-in-BoolLinGt
unfolding row_at
returns-in-BoolLinGt c = at_row c.args.at.now c.args.builtin builtin.BoolLinGt c.below-in-BoolLinGt.result c.in-BoolLinGt.is (λ K h.
    let xs = given c.args.at.now in
    c.below-in-BoolLinGt.ensures (int_at K xs 2) (total (where_true (ints_at K xs 0) (bools_at K xs 1))) (c.number-in-BoolLinGt.ensures K (record { low = h.low.1.1.0; high = h.high.1.1.0 })) (c.sum_where_true-in-BoolLinGt.ensures K (record { low = h.low.0; high = h.high.0 }) (record { low = h.low.1.0; high = h.high.1.0 })))

pub returns-in-ArrayIntElement : goal.returns-in-ArrayIntElement
unfolding row_at
returns-in-ArrayIntElement c = at_row c.args.at.now c.args.builtin builtin.ArrayIntElement c.int_element.result c.in-ArrayIntElement.is (λ K h.
    c.int_element.ensures K (record { low = h.low.0; high = h.high.0 }) (record { low = h.low.1.0; high = h.high.1.0 }) (record { low = h.low.1.1.0; high = h.high.1.1.0 }))

pub returns-in-ArrayBoolElement : goal.returns-in-ArrayBoolElement
unfolding row_at
returns-in-ArrayBoolElement c = at_row c.args.at.now c.args.builtin builtin.ArrayBoolElement c.bool_element.result c.in-ArrayBoolElement.is (λ K h.
    c.bool_element.ensures K (record { low = h.low.0; high = h.high.0 }) (record { low = h.low.1.0; high = h.high.1.0 }) (record { low = h.low.1.1.0; high = h.high.1.1.0 }))

pub returns-in-IntMin : goal.returns-in-IntMin
unfolding row_at
returns-in-IntMin c = at_row c.args.at.now c.args.builtin builtin.IntMin c.equal-in-IntMin.result c.in-IntMin.is (λ K h.
    let xs = given c.args.at.now in
    c.equal-in-IntMin.ensures (int_at K xs 2) (int_min (int_at K xs 0) (int_at K xs 1)) (c.number-in-IntMin.ensures K (record { low = h.low.1.1.0; high = h.high.1.1.0 })) (c.min.ensures (int_at K xs 0) (int_at K xs 1) (c.number-in-IntMin-2.ensures K (record { low = h.low.0; high = h.high.0 })) (c.number-in-IntMin-3.ensures K (record { low = h.low.1.0; high = h.high.1.0 }))))

pub returns-in-IntMax : goal.returns-in-IntMax
unfolding row_at
returns-in-IntMax c = at_row c.args.at.now c.args.builtin builtin.IntMax c.equal-in-IntMax.result c.in-IntMax.is (λ K h.
    let xs = given c.args.at.now in
    c.equal-in-IntMax.ensures (int_at K xs 2) (int_max (int_at K xs 0) (int_at K xs 1)) (c.number-in-IntMax.ensures K (record { low = h.low.1.1.0; high = h.high.1.1.0 })) (c.max.ensures (int_at K xs 0) (int_at K xs 1) (c.number-in-IntMax-2.ensures K (record { low = h.low.0; high = h.high.0 })) (c.number-in-IntMax-3.ensures K (record { low = h.low.1.0; high = h.high.1.0 }))))

pub returns-in-IntAbs : goal.returns-in-IntAbs
unfolding row_at
returns-in-IntAbs c = at_row c.args.at.now c.args.builtin builtin.IntAbs c.equal-in-IntAbs.result c.in-IntAbs.is (λ K h.
    let xs = given c.args.at.now in
    c.equal-in-IntAbs.ensures (int_at K xs 1) (pos (unsigned_abs (int_at K xs 0))) (c.number-in-IntAbs.ensures K (record { low = h.low.1.0; high = h.high.1.0 })) (c.abs.ensures (int_at K xs 0) (c.number-in-IntAbs-2.ensures K (record { low = h.low.0; high = h.high.0 }))))

pub returns-in-ArrayIntMaximum : goal.returns-in-ArrayIntMaximum
unfolding row_at
returns-in-ArrayIntMaximum c = at_row c.args.at.now c.args.builtin builtin.ArrayIntMaximum c.and-in-ArrayIntMaximum.result c.in-ArrayIntMaximum.is (λ K h.
    let xs = given c.args.at.now in
    c.and-in-ArrayIntMaximum.ensures (is_among (int_at K xs 0) (ints_at K xs 1)) (list_all (λ x. int_le x (int_at K xs 0)) (ints_at K xs 1)) (c.is_among.ensures K (record { low = h.low.1.0; high = h.high.1.0 }) (int_at K xs 0) (c.number-in-ArrayIntMaximum.ensures K (record { low = h.low.0; high = h.high.0 }))) (c.all_are.ensures K (record { low = h.low.0; high = h.high.0 }) (record { low = h.low.1.0; high = h.high.1.0 })))

pub returns-in-ArrayIntMinimum : goal.returns-in-ArrayIntMinimum
unfolding row_at
returns-in-ArrayIntMinimum c = at_row c.args.at.now c.args.builtin builtin.ArrayIntMinimum c.and-in-ArrayIntMinimum.result c.in-ArrayIntMinimum.is (λ K h.
    let xs = given c.args.at.now in
    c.and-in-ArrayIntMinimum.ensures (is_among (int_at K xs 0) (ints_at K xs 1)) (list_all (λ x. int_le (int_at K xs 0) x) (ints_at K xs 1)) (c.is_among-in-ArrayIntMinimum.ensures K (record { low = h.low.1.0; high = h.high.1.0 }) (int_at K xs 0) (c.number-in-ArrayIntMinimum.ensures K (record { low = h.low.0; high = h.high.0 }))) (c.all_are-in-ArrayIntMinimum.ensures K (record { low = h.low.0; high = h.high.0 }) (record { low = h.low.1.0; high = h.high.1.0 })))

pub returns-in-FznCountEq : goal.returns-in-FznCountEq
unfolding row_at
returns-in-FznCountEq c = at_row c.args.at.now c.args.builtin builtin.FznCountEq c.equal-in-FznCountEq.result c.in-FznCountEq.is (λ K h.
    let xs = given c.args.at.now in
    c.equal-in-FznCountEq.ensures (int_at K xs 2) (count_of (ints_at K xs 0) (int_at K xs 1)) (c.number-in-FznCountEq.ensures K (record { low = h.low.1.1.0; high = h.high.1.1.0 })) (c.count_of.ensures K (record { low = h.low.0; high = h.high.0 }) (int_at K xs 1) (c.number-in-FznCountEq-2.ensures K (record { low = h.low.1.0; high = h.high.1.0 }))))

pub returns-in-FznCountNeq : goal.returns-in-FznCountNeq
unfolding row_at
returns-in-FznCountNeq c = at_row c.args.at.now c.args.builtin builtin.FznCountNeq c.negated-in-FznCountNeq.result c.in-FznCountNeq.is (λ K h.
    let xs = given c.args.at.now in
    c.negated-in-FznCountNeq.ensures ((int_at K xs 2) =ℤ (count_of (ints_at K xs 0) (int_at K xs 1))) (c.equal-in-FznCountNeq.ensures (int_at K xs 2) (count_of (ints_at K xs 0) (int_at K xs 1)) (c.number-in-FznCountNeq.ensures K (record { low = h.low.1.1.0; high = h.high.1.1.0 })) (c.count_of-in-FznCountNeq.ensures K (record { low = h.low.0; high = h.high.0 }) (int_at K xs 1) (c.number-in-FznCountNeq-2.ensures K (record { low = h.low.1.0; high = h.high.1.0 })))))

pub returns-in-FznCountGeq : goal.returns-in-FznCountGeq
unfolding row_at
returns-in-FznCountGeq c = at_row c.args.at.now c.args.builtin builtin.FznCountGeq c.at_most-in-FznCountGeq.result c.in-FznCountGeq.is (λ K h.
    let xs = given c.args.at.now in
    c.at_most-in-FznCountGeq.ensures (count_of (ints_at K xs 0) (int_at K xs 1)) (int_at K xs 2) (c.count_of-in-FznCountGeq.ensures K (record { low = h.low.0; high = h.high.0 }) (int_at K xs 1) (c.number-in-FznCountGeq.ensures K (record { low = h.low.1.0; high = h.high.1.0 }))) (c.number-in-FznCountGeq-2.ensures K (record { low = h.low.1.1.0; high = h.high.1.1.0 })))

pub returns-in-FznCountGt : goal.returns-in-FznCountGt
unfolding row_at
returns-in-FznCountGt c = at_row c.args.at.now c.args.builtin builtin.FznCountGt c.below-in-FznCountGt.result c.in-FznCountGt.is (λ K h.
    let xs = given c.args.at.now in
    c.below-in-FznCountGt.ensures (count_of (ints_at K xs 0) (int_at K xs 1)) (int_at K xs 2) (c.count_of-in-FznCountGt.ensures K (record { low = h.low.0; high = h.high.0 }) (int_at K xs 1) (c.number-in-FznCountGt.ensures K (record { low = h.low.1.0; high = h.high.1.0 }))) (c.number-in-FznCountGt-2.ensures K (record { low = h.low.1.1.0; high = h.high.1.1.0 })))

pub returns-in-FznCountLeq : goal.returns-in-FznCountLeq
unfolding row_at
returns-in-FznCountLeq c = at_row c.args.at.now c.args.builtin builtin.FznCountLeq c.at_most-in-FznCountLeq.result c.in-FznCountLeq.is (λ K h.
    let xs = given c.args.at.now in
    c.at_most-in-FznCountLeq.ensures (int_at K xs 2) (count_of (ints_at K xs 0) (int_at K xs 1)) (c.number-in-FznCountLeq.ensures K (record { low = h.low.1.1.0; high = h.high.1.1.0 })) (c.count_of-in-FznCountLeq.ensures K (record { low = h.low.0; high = h.high.0 }) (int_at K xs 1) (c.number-in-FznCountLeq-2.ensures K (record { low = h.low.1.0; high = h.high.1.0 }))))

pub returns-in-FznCountLt : goal.returns-in-FznCountLt
unfolding row_at
returns-in-FznCountLt c = at_row c.args.at.now c.args.builtin builtin.FznCountLt c.below-in-FznCountLt.result c.in-FznCountLt.is (λ K h.
    let xs = given c.args.at.now in
    c.below-in-FznCountLt.ensures (int_at K xs 2) (count_of (ints_at K xs 0) (int_at K xs 1)) (c.number-in-FznCountLt.ensures K (record { low = h.low.1.1.0; high = h.high.1.1.0 })) (c.count_of-in-FznCountLt.ensures K (record { low = h.low.0; high = h.high.0 }) (int_at K xs 1) (c.number-in-FznCountLt-2.ensures K (record { low = h.low.1.0; high = h.high.1.0 }))))

pub returns-in-FznAtLeastInt : goal.returns-in-FznAtLeastInt
unfolding row_at
returns-in-FznAtLeastInt c = at_row c.args.at.now c.args.builtin builtin.FznAtLeastInt c.at_most-in-FznAtLeastInt.result c.in-FznAtLeastInt.is (λ K h.
    let xs = given c.args.at.now in
    c.at_most-in-FznAtLeastInt.ensures (int_at K xs 0) (count_of (ints_at K xs 1) (int_at K xs 2)) (c.number-in-FznAtLeastInt.ensures K (record { low = h.low.0; high = h.high.0 })) (c.count_of-in-FznAtLeastInt.ensures K (record { low = h.low.1.0; high = h.high.1.0 }) (int_at K xs 2) (c.number-in-FznAtLeastInt-2.ensures K (record { low = h.low.1.1.0; high = h.high.1.1.0 }))))

pub returns-in-FznAtMostInt : goal.returns-in-FznAtMostInt
unfolding row_at
returns-in-FznAtMostInt c = at_row c.args.at.now c.args.builtin builtin.FznAtMostInt c.at_most-in-FznAtMostInt.result c.in-FznAtMostInt.is (λ K h.
    let xs = given c.args.at.now in
    c.at_most-in-FznAtMostInt.ensures (count_of (ints_at K xs 1) (int_at K xs 2)) (int_at K xs 0) (c.count_of-in-FznAtMostInt.ensures K (record { low = h.low.1.0; high = h.high.1.0 }) (int_at K xs 2) (c.number-in-FznAtMostInt.ensures K (record { low = h.low.1.1.0; high = h.high.1.1.0 }))) (c.number-in-FznAtMostInt-2.ensures K (record { low = h.low.0; high = h.high.0 })))

pub returns-in-FznExactlyInt : goal.returns-in-FznExactlyInt
unfolding row_at
returns-in-FznExactlyInt c = at_row c.args.at.now c.args.builtin builtin.FznExactlyInt c.equal-in-FznExactlyInt.result c.in-FznExactlyInt.is (λ K h.
    let xs = given c.args.at.now in
    c.equal-in-FznExactlyInt.ensures (int_at K xs 0) (count_of (ints_at K xs 1) (int_at K xs 2)) (c.number-in-FznExactlyInt.ensures K (record { low = h.low.0; high = h.high.0 })) (c.count_of-in-FznExactlyInt.ensures K (record { low = h.low.1.0; high = h.high.1.0 }) (int_at K xs 2) (c.number-in-FznExactlyInt-2.ensures K (record { low = h.low.1.1.0; high = h.high.1.1.0 }))))

pub returns-in-IntTimes : goal.returns-in-IntTimes
unfolding row_at
returns-in-IntTimes c = at_row c.args.at.now c.args.builtin builtin.IntTimes c.equal-in-IntTimes.result c.in-IntTimes.is (λ K h.
    let xs = given c.args.at.now in
    c.equal-in-IntTimes.ensures (int_at K xs 2) ((int_at K xs 0) *ℤ (int_at K xs 1)) (c.number-in-IntTimes.ensures K (record { low = h.low.1.1.0; high = h.high.1.1.0 })) (c.product.ensures K (record { low = h.low.0; high = h.high.0 }) (record { low = h.low.1.0; high = h.high.1.0 })))

pub returns-in-FznAlldifferentExcept0 : goal.returns-in-FznAlldifferentExcept0
unfolding row_at
returns-in-FznAlldifferentExcept0 c = at_row c.args.at.now c.args.builtin builtin.FznAlldifferentExcept0 c.different_but_zeros.result c.in-FznAlldifferentExcept0.is (λ K h.
    c.different_but_zeros.ensures K (record { low = h.low.0; high = h.high.0 }))

pub returns-in-FznBinPacking : goal.returns-in-FznBinPacking
unfolding row_at
returns-in-FznBinPacking c = at_row c.args.at.now c.args.builtin builtin.FznBinPacking c.loads_are_within.result c.in-FznBinPacking.is (λ K h.
    c.loads_are_within.ensures K (record { low = h.low.0; high = h.high.0 }) (record { low = h.low.1.0; high = h.high.1.0 }) (record { low = h.low.1.1.0; high = h.high.1.1.0 }))

pub returns-in-GecodeBinPackingLoad : goal.returns-in-GecodeBinPackingLoad
unfolding row_at
returns-in-GecodeBinPackingLoad c = at_row c.args.at.now c.args.builtin builtin.GecodeBinPackingLoad c.and-in-GecodeBinPackingLoad.result c.in-GecodeBinPackingLoad.is (λ K h.
    let xs = given c.args.at.now in
    c.and-in-GecodeBinPackingLoad.ensures (list_all (lies_between (int_at K xs 3) ((int_at K xs 3 +ℤ pos (length (ints_at K xs 0))) -ℤ pos 1)) (ints_at K xs 1)) (loads_are (int_at K xs 3) (ints_at K xs 1) (ints_at K xs 2) (ints_at K xs 0)) (c.are_in_bins.ensures K (record { low = h.low.1.0; high = h.high.1.0 }) (record { low = h.low.1.1.1.0; high = h.high.1.1.1.0 })) (c.loads_are.ensures K (record { low = h.low.0; high = h.high.0 }) (record { low = h.low.1.0; high = h.high.1.0 }) (record { low = h.low.1.1.0; high = h.high.1.1.0 }) (record { low = h.low.1.1.1.0; high = h.high.1.1.1.0 })))

pub returns-in-FznGlobalCardinality : goal.returns-in-FznGlobalCardinality
unfolding row_at
returns-in-FznGlobalCardinality c = at_row c.args.at.now c.args.builtin builtin.FznGlobalCardinality c.counts_are.result c.in-FznGlobalCardinality.is (λ K h.
    c.counts_are.ensures K (record { low = h.low.0; high = h.high.0 }) (record { low = h.low.1.0; high = h.high.1.0 }) (record { low = h.low.1.1.0; high = h.high.1.1.0 }))

pub returns-in-FznGlobalCardinalityClosed : goal.returns-in-FznGlobalCardinalityClosed
unfolding row_at
returns-in-FznGlobalCardinalityClosed c = at_row c.args.at.now c.args.builtin builtin.FznGlobalCardinalityClosed c.and-in-FznGlobalCardinalityClosed.result c.in-FznGlobalCardinalityClosed.is (λ K h.
    let xs = given c.args.at.now in
    c.and-in-FznGlobalCardinalityClosed.ensures (counts_are (ints_at K xs 0) (ints_at K xs 1) (ints_at K xs 2)) (is_closed (ints_at K xs 0) (ints_at K xs 1)) (c.counts_are-in-FznGlobalCardinalityClosed.ensures K (record { low = h.low.0; high = h.high.0 }) (record { low = h.low.1.0; high = h.high.1.0 }) (record { low = h.low.1.1.0; high = h.high.1.1.0 })) (c.is_closed.ensures K (record { low = h.low.0; high = h.high.0 }) (record { low = h.low.1.0; high = h.high.1.0 })))

pub returns-in-FznGlobalCardinalityLowUp : goal.returns-in-FznGlobalCardinalityLowUp
unfolding row_at
returns-in-FznGlobalCardinalityLowUp c = at_row c.args.at.now c.args.builtin builtin.FznGlobalCardinalityLowUp c.counts_lie.result c.in-FznGlobalCardinalityLowUp.is (λ K h.
    c.counts_lie.ensures K (record { low = h.low.0; high = h.high.0 }) (record { low = h.low.1.0; high = h.high.1.0 }) (record { low = h.low.1.1.0; high = h.high.1.1.0 }) (record { low = h.low.1.1.1.0; high = h.high.1.1.1.0 }))

pub returns-in-FznGlobalCardinalityLowUpClosed : goal.returns-in-FznGlobalCardinalityLowUpClosed
unfolding row_at
returns-in-FznGlobalCardinalityLowUpClosed c = at_row c.args.at.now c.args.builtin builtin.FznGlobalCardinalityLowUpClosed c.and-in-FznGlobalCardinalityLowUpClosed.result c.in-FznGlobalCardinalityLowUpClosed.is (λ K h.
    let xs = given c.args.at.now in
    c.and-in-FznGlobalCardinalityLowUpClosed.ensures (counts_lie (ints_at K xs 0) (ints_at K xs 1) (ints_at K xs 2) (ints_at K xs 3)) (is_closed (ints_at K xs 0) (ints_at K xs 1)) (c.counts_lie-in-FznGlobalCardinalityLowUpClosed.ensures K (record { low = h.low.0; high = h.high.0 }) (record { low = h.low.1.0; high = h.high.1.0 }) (record { low = h.low.1.1.0; high = h.high.1.1.0 }) (record { low = h.low.1.1.1.0; high = h.high.1.1.1.0 })) (c.is_closed-in-FznGlobalCardinalityLowUpClosed.ensures K (record { low = h.low.0; high = h.high.0 }) (record { low = h.low.1.0; high = h.high.1.0 })))

pub returns-in-FznDistribute : goal.returns-in-FznDistribute
unfolding row_at
returns-in-FznDistribute c = at_row c.args.at.now c.args.builtin builtin.FznDistribute c.counts_are-in-FznDistribute.result c.in-FznDistribute.is (λ K h.
    c.counts_are-in-FznDistribute.ensures K (record { low = h.low.1.1.0; high = h.high.1.1.0 }) (record { low = h.low.1.0; high = h.high.1.0 }) (record { low = h.low.0; high = h.high.0 }))

pub returns-in-FznCumulative : goal.returns-in-FznCumulative
unfolding row_at
returns-in-FznCumulative c = at_row c.args.at.now c.args.builtin builtin.FznCumulative c.is_cumulative.result c.in-FznCumulative.is (λ K h.
    c.is_cumulative.ensures K (record { low = h.low.0; high = h.high.0 }) (record { low = h.low.1.0; high = h.high.1.0 }) (record { low = h.low.1.1.0; high = h.high.1.1.0 }) (record { low = h.low.1.1.1.0; high = h.high.1.1.1.0 }))

pub returns-in-FznDisjunctive : goal.returns-in-FznDisjunctive
unfolding row_at
returns-in-FznDisjunctive c = at_row c.args.at.now c.args.builtin builtin.FznDisjunctive c.and-in-FznDisjunctive.result c.in-FznDisjunctive.is (λ K h.
    let spans = zip (ints_at K (given c.args.at.now) 0) (ints_at K (given c.args.at.now) 1) in
    c.and-in-FznDisjunctive.ensures (last_naturally spans) (all_pairs (keep_apart true) spans) (c.last_naturally.ensures K (record { low = h.low.0; high = h.high.0 }) (record { low = h.low.1.0; high = h.high.1.0 })) (c.keep_all_apart.ensures K (record { low = h.low.0; high = h.high.0 }) (record { low = h.low.1.0; high = h.high.1.0 })))

pub returns-in-FznDisjunctiveStrict : goal.returns-in-FznDisjunctiveStrict
unfolding row_at
returns-in-FznDisjunctiveStrict c = at_row c.args.at.now c.args.builtin builtin.FznDisjunctiveStrict c.and-in-FznDisjunctiveStrict.result c.in-FznDisjunctiveStrict.is (λ K h.
    let spans = zip (ints_at K (given c.args.at.now) 0) (ints_at K (given c.args.at.now) 1) in
    c.and-in-FznDisjunctiveStrict.ensures (last_naturally spans) (all_pairs (keep_apart false) spans) (c.last_naturally-in-FznDisjunctiveStrict.ensures K (record { low = h.low.0; high = h.high.0 }) (record { low = h.low.1.0; high = h.high.1.0 })) (c.keep_all_apart-in-FznDisjunctiveStrict.ensures K (record { low = h.low.0; high = h.high.0 }) (record { low = h.low.1.0; high = h.high.1.0 })))

pub returns-in-FznMemberInt : goal.returns-in-FznMemberInt
unfolding row_at
returns-in-FznMemberInt c = at_row c.args.at.now c.args.builtin builtin.FznMemberInt c.is_among-in-FznMemberInt.result c.in-FznMemberInt.is (λ K h.
    let xs = given c.args.at.now in
    c.is_among-in-FznMemberInt.ensures K (record { low = h.low.0; high = h.high.0 }) (int_at K xs 1) (c.number-in-FznMemberInt.ensures K (record { low = h.low.1.0; high = h.high.1.0 })))

pub returns-in-IntDiv : goal.returns-in-IntDiv
unfolding row_at
returns-in-IntDiv c = at_row c.args.at.now c.args.builtin builtin.IntDiv c.is_quotient.result c.in-IntDiv.is (λ K h.
    c.is_quotient.ensures K (record { low = h.low.0; high = h.high.0 }) (record { low = h.low.1.0; high = h.high.1.0 }) (record { low = h.low.1.1.0; high = h.high.1.1.0 }))

pub returns-in-IntMod : goal.returns-in-IntMod
unfolding row_at
returns-in-IntMod c = at_row c.args.at.now c.args.builtin builtin.IntMod c.is_remainder.result c.in-IntMod.is (λ K h.
    c.is_remainder.ensures K (record { low = h.low.0; high = h.high.0 }) (record { low = h.low.1.0; high = h.high.1.0 }) (record { low = h.low.1.1.0; high = h.high.1.1.0 }))

pub returns-in-FznAllEqualInt : goal.returns-in-FznAllEqualInt
unfolding row_at
returns-in-FznAllEqualInt c = at_row c.args.at.now c.args.builtin builtin.FznAllEqualInt c.are_in_order.result c.in-FznAllEqualInt.is (λ K h.
    c.are_in_order.ensures K (record { low = h.low.0; high = h.high.0 }))

pub returns-in-FznIncreasingInt : goal.returns-in-FznIncreasingInt
unfolding row_at
returns-in-FznIncreasingInt c = at_row c.args.at.now c.args.builtin builtin.FznIncreasingInt c.are_in_order-in-FznIncreasingInt.result c.in-FznIncreasingInt.is (λ K h.
    c.are_in_order-in-FznIncreasingInt.ensures K (record { low = h.low.0; high = h.high.0 }))

pub returns-in-FznDecreasingInt : goal.returns-in-FznDecreasingInt
unfolding row_at
returns-in-FznDecreasingInt c = at_row c.args.at.now c.args.builtin builtin.FznDecreasingInt c.are_in_order-in-FznDecreasingInt.result c.in-FznDecreasingInt.is (λ K h.
    c.are_in_order-in-FznDecreasingInt.ensures K (record { low = h.low.0; high = h.high.0 }))

pub returns-in-FznStrictlyIncreasingInt : goal.returns-in-FznStrictlyIncreasingInt
unfolding row_at
returns-in-FznStrictlyIncreasingInt c = at_row c.args.at.now c.args.builtin builtin.FznStrictlyIncreasingInt c.are_in_order-in-FznStrictlyIncreasingInt.result c.in-FznStrictlyIncreasingInt.is (λ K h.
    c.are_in_order-in-FznStrictlyIncreasingInt.ensures K (record { low = h.low.0; high = h.high.0 }))

pub returns-in-FznIncreasingBool : goal.returns-in-FznIncreasingBool
unfolding row_at
returns-in-FznIncreasingBool c = at_row c.args.at.now c.args.builtin builtin.FznIncreasingBool c.are_rising.result c.in-FznIncreasingBool.is (λ K h.
    c.are_rising.ensures K (record { low = h.low.0; high = h.high.0 }))

pub returns-in-FznDecreasingBool : goal.returns-in-FznDecreasingBool
unfolding row_at
returns-in-FznDecreasingBool c = at_row c.args.at.now c.args.builtin builtin.FznDecreasingBool c.are_falling.result c.in-FznDecreasingBool.is (λ K h.
    c.are_falling.ensures K (record { low = h.low.0; high = h.high.0 }))

pub returns-in-FznValuePrecedeInt : goal.returns-in-FznValuePrecedeInt
unfolding row_at
returns-in-FznValuePrecedeInt c = at_row c.args.at.now c.args.builtin builtin.FznValuePrecedeInt c.precedes.result c.in-FznValuePrecedeInt.is (λ K h.
    let xs = given c.args.at.now in
    c.precedes.ensures K (record { low = h.low.1.1.0; high = h.high.1.1.0 }) (int_at K xs 0) (int_at K xs 1) (c.number-in-FznValuePrecedeInt.ensures K (record { low = h.low.0; high = h.high.0 })) (c.number-in-FznValuePrecedeInt-2.ensures K (record { low = h.low.1.0; high = h.high.1.0 })))

pub returns-in-GecodePrecede : goal.returns-in-GecodePrecede
unfolding row_at
returns-in-GecodePrecede c = at_row c.args.at.now c.args.builtin builtin.GecodePrecede c.precedes-in-GecodePrecede.result c.in-GecodePrecede.is (λ K h.
    let xs = given c.args.at.now in
    c.precedes-in-GecodePrecede.ensures K (record { low = h.low.0; high = h.high.0 }) (int_at K xs 1) (int_at K xs 2) (c.number-in-GecodePrecede.ensures K (record { low = h.low.1.0; high = h.high.1.0 })) (c.number-in-GecodePrecede-2.ensures K (record { low = h.low.1.1.0; high = h.high.1.1.0 })))

pub returns-in-FznValuePrecedeChainInt : goal.returns-in-FznValuePrecedeChainInt
unfolding row_at
returns-in-FznValuePrecedeChainInt c = at_row c.args.at.now c.args.builtin builtin.FznValuePrecedeChainInt c.precede_in_turn.result c.in-FznValuePrecedeChainInt.is (λ K h.
    c.precede_in_turn.ensures K (record { low = h.low.0; high = h.high.0 }) (record { low = h.low.1.0; high = h.high.1.0 }))

pub returns-in-FznSeqPrecedeChainInt : goal.returns-in-FznSeqPrecedeChainInt
unfolding row_at
returns-in-FznSeqPrecedeChainInt c = at_row c.args.at.now c.args.builtin builtin.FznSeqPrecedeChainInt c.rise_by_one.result c.in-FznSeqPrecedeChainInt.is (λ K h.
    c.rise_by_one.ensures K (record { low = h.low.0; high = h.high.0 }))

pub returns-in-SetIn : goal.returns-in-SetIn
unfolding row_at
returns-in-SetIn c = at_row c.args.at.now c.args.builtin builtin.SetIn c.is_in.result c.in-SetIn.is (λ K h.
    c.is_in.ensures K (record { low = h.low.0; high = h.high.0 }) (record { low = h.low.1.0; high = h.high.1.0 }))

pub returns-in-FznAmong : goal.returns-in-FznAmong
unfolding row_at
returns-in-FznAmong c = at_row c.args.at.now c.args.builtin builtin.FznAmong c.equal-in-FznAmong.result c.in-FznAmong.is (λ K h.
    let xs = given c.args.at.now in
    c.equal-in-FznAmong.ensures (int_at K xs 0) (count_in (ints_at K xs 1) (set_at K xs 2)) (c.number-in-FznAmong.ensures K (record { low = h.low.0; high = h.high.0 })) (c.count_in.ensures K (record { low = h.low.1.0; high = h.high.1.0 }) (record { low = h.low.1.1.0; high = h.high.1.1.0 })))

pub returns-in-FznKnapsack : goal.returns-in-FznKnapsack
unfolding row_at
returns-in-FznKnapsack c = at_row c.args.at.now c.args.builtin builtin.FznKnapsack c.fills_knapsack.result c.in-FznKnapsack.is (λ K h.
    c.fills_knapsack.ensures K (record { low = h.low.0; high = h.high.0 }) (record { low = h.low.1.0; high = h.high.1.0 }) (record { low = h.low.1.1.0; high = h.high.1.1.0 }) (record { low = h.low.1.1.1.0; high = h.high.1.1.1.0 }) (record { low = h.low.1.1.1.1.0; high = h.high.1.1.1.1.0 }))

pub returns-in-GecodeScheduleUnary : goal.returns-in-GecodeScheduleUnary
unfolding row_at
returns-in-GecodeScheduleUnary c = at_row c.args.at.now c.args.builtin builtin.GecodeScheduleUnary c.keep_all_apart-in-GecodeScheduleUnary.result c.in-GecodeScheduleUnary.is (λ K h.
    c.keep_all_apart-in-GecodeScheduleUnary.ensures K (record { low = h.low.0; high = h.high.0 }) (record { low = h.low.1.0; high = h.high.1.0 }))

pub returns-in-FznDiffn : goal.returns-in-FznDiffn
unfolding row_at
returns-in-FznDiffn c = at_row c.args.at.now c.args.builtin builtin.FznDiffn c.boxes_keep_apart.result c.in-FznDiffn.is (λ K h.
    c.boxes_keep_apart.ensures K (record { low = h.low.0; high = h.high.0 }) (record { low = h.low.1.0; high = h.high.1.0 }) (record { low = h.low.1.1.0; high = h.high.1.1.0 }) (record { low = h.low.1.1.1.0; high = h.high.1.1.1.0 }))

pub returns-in-FznDiffnNonstrict : goal.returns-in-FznDiffnNonstrict
unfolding row_at
returns-in-FznDiffnNonstrict c = at_row c.args.at.now c.args.builtin builtin.FznDiffnNonstrict c.boxes_keep_apart-in-FznDiffnNonstrict.result c.in-FznDiffnNonstrict.is (λ K h.
    c.boxes_keep_apart-in-FznDiffnNonstrict.ensures K (record { low = h.low.0; high = h.high.0 }) (record { low = h.low.1.0; high = h.high.1.0 }) (record { low = h.low.1.1.0; high = h.high.1.1.0 }) (record { low = h.low.1.1.1.0; high = h.high.1.1.1.0 }))

pub returns-in-GecodeNooverlap : goal.returns-in-GecodeNooverlap
unfolding row_at
returns-in-GecodeNooverlap c = at_row c.args.at.now c.args.builtin builtin.GecodeNooverlap c.boxes_keep_apart-in-GecodeNooverlap.result c.in-GecodeNooverlap.is (λ K h.
    c.boxes_keep_apart-in-GecodeNooverlap.ensures K (record { low = h.low.0; high = h.high.0 }) (record { low = h.low.1.1.0; high = h.high.1.1.0 }) (record { low = h.low.1.0; high = h.high.1.0 }) (record { low = h.low.1.1.1.0; high = h.high.1.1.1.0 }))

pub returns-in-FznTableInt : goal.returns-in-FznTableInt
unfolding row_at
returns-in-FznTableInt c = at_row c.args.at.now c.args.builtin builtin.FznTableInt c.is_row_of.result c.in-FznTableInt.is (λ K h.
    c.is_row_of.ensures K (record { low = h.low.0; high = h.high.0 }) (record { low = h.low.1.0; high = h.high.1.0 }))

pub returns-in-FznLexLessInt : goal.returns-in-FznLexLessInt
unfolding row_at
returns-in-FznLexLessInt c = at_row c.args.at.now c.args.builtin builtin.FznLexLessInt c.comes_before.result c.in-FznLexLessInt.is (λ K h.
    c.comes_before.ensures K (record { low = h.low.0; high = h.high.0 }) (record { low = h.low.1.0; high = h.high.1.0 }))

pub returns-in-FznLexLesseqInt : goal.returns-in-FznLexLesseqInt
unfolding row_at
returns-in-FznLexLesseqInt c = at_row c.args.at.now c.args.builtin builtin.FznLexLesseqInt c.negated-in-FznLexLesseqInt.result c.in-FznLexLesseqInt.is (λ K h.
    c.negated-in-FznLexLesseqInt.ensures (comes (ints_at K (given c.args.at.now) 1) (ints_at K (given c.args.at.now) 0)) (c.comes_before-in-FznLexLesseqInt.ensures K (record { low = h.low.1.0; high = h.high.1.0 }) (record { low = h.low.0; high = h.high.0 })))

pub returns-in-FznLexLessBool : goal.returns-in-FznLexLessBool
unfolding row_at
returns-in-FznLexLessBool c = at_row c.args.at.now c.args.builtin builtin.FznLexLessBool c.comes_before-in-FznLexLessBool.result c.in-FznLexLessBool.is (λ K h.
    subst (Decides c.comes_before-in-FznLexLessBool.result) (sym (truths_come (bools_at K (given c.args.at.now) 0) (bools_at K (given c.args.at.now) 1))) (c.comes_before-in-FznLexLessBool.ensures K (record { low = h.low.0; high = h.high.0 }) (record { low = h.low.1.0; high = h.high.1.0 })))

pub returns-in-FznLexLesseqBool : goal.returns-in-FznLexLesseqBool
unfolding row_at
returns-in-FznLexLesseqBool c = at_row c.args.at.now c.args.builtin builtin.FznLexLesseqBool c.negated-in-FznLexLesseqBool.result c.in-FznLexLesseqBool.is (λ K h.
    let bs = bools_at K (given c.args.at.now) 0 in
    let cs = bools_at K (given c.args.at.now) 1 in
    subst (λ b. Decides c.negated-in-FznLexLesseqBool.result (not b)) (sym (truths_come cs bs)) (c.negated-in-FznLexLesseqBool.ensures (comes (map as_number cs) (map as_number bs)) (c.comes_before-in-FznLexLesseqBool.ensures K (record { low = h.low.1.0; high = h.high.1.0 }) (record { low = h.low.0; high = h.high.0 }))))

pub returns-in-InverseOffsets : goal.returns-in-InverseOffsets
unfolding row_at
returns-in-InverseOffsets c = at_row c.args.at.now c.args.builtin builtin.InverseOffsets c.are_inverse.result c.in-InverseOffsets.is (λ K h.
    c.are_inverse.ensures K (record { low = h.low.0; high = h.high.0 }) (record { low = h.low.1.0; high = h.high.1.0 }) (record { low = h.low.1.1.0; high = h.high.1.1.0 }) (record { low = h.low.1.1.1.0; high = h.high.1.1.1.0 }))
