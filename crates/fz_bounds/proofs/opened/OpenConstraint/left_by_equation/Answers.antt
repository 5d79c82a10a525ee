use Rattle.std.proofs.Common.{◌≡◌, ℤ, ◌-ℤ◌, ap, negsuc, pos, subst, arith}
use Rattle.std.proofs.lemmas.Int.{ints}
use Rattle.fz_model.specs.Builtins.{row_at}
use Rattle.fz_model.specs.Meaning.{Partial}
use Rattle.fz_model.specs.Relations.{products, total}
use Rattle.fz_model.specs.of_base.declared.value.Value.TheVariants.{Int}
use Rattle.fz_model.specs.of_builtins.of_kernel.Given.{int_at, int_in, ints_at}
use Rattle.fz_bounds.specs.Decided.{LiesIn}
use Rattle.fz_bounds.specs.Opened.{zeroed}
use Rattle.fz_bounds.specs.Within.{NumberLies, NumbersLie, given}
use Rattle.fz_bounds.proofs.Shares.{is_negative_rest, is_rest}
use Rattle.fz_bounds.proofs.opened.OpenConstraint.left_by_equation.Goals as goal

pub returns-then-share-eq1 : goal.returns-then-share-eq1
unfolding row_at
returns-then-share-eq1 c = λ K a at h holds.
    let o = c.args.self.now in
    let zero = zeroed o K in
    let sum_of : Partial → ℤ = λ L. total (products (ints_at L (given o.at) 0) (ints_at L (given o.at) 1)) in
    let factors : NumbersLie o.at 0 zero = record { low = h.low.0; high = h.high.0 } in
    let rest : LiesIn c.sum_of_products-rest.result (sum_of zero) = c.sum_of_products-rest.ensures zero factors (record { low = h.low.1.0; high = h.high.1.0 }) in
    let bound : LiesIn c.number-sum.result (int_at K (given o.at) 2) = subst (LiesIn c.number-sum.result) (ap int_in (c.is_at.ensures.other c.if-is_at.false K (Int (pos 0)))) (c.number-sum.ensures zero (record { low = h.low.1.1.0; high = h.high.1.1.0 })) in
    let is : c.in-Some.share ≡ pos 1 = omega (arith, ints) in
    let adds = c.in-Some.ensures K a at factors in
    subst (LiesIn c.minus.result) (is_rest (sum_of K) (sum_of zero) (int_at K (given o.at) 2) c.in-Some.share a adds is holds) (c.minus.ensures (int_at K (given o.at) 2) (sum_of zero) bound rest)

pub returns-then-share : goal.returns-then-share
unfolding row_at
returns-then-share c = λ K a at h holds.
    let o = c.args.self.now in
    let zero = zeroed o K in
    let sum_of : Partial → ℤ = λ L. total (products (ints_at L (given o.at) 0) (ints_at L (given o.at) 1)) in
    let factors : NumbersLie o.at 0 zero = record { low = h.low.0; high = h.high.0 } in
    let rest : LiesIn c.sum_of_products-rest.result (sum_of zero) = c.sum_of_products-rest.ensures zero factors (record { low = h.low.1.0; high = h.high.1.0 }) in
    let bound : LiesIn c.number-sum.result (int_at K (given o.at) 2) = subst (LiesIn c.number-sum.result) (ap int_in (c.is_at.ensures.other c.if-is_at.false K (Int (pos 0)))) (c.number-sum.ensures zero (record { low = h.low.1.1.0; high = h.high.1.1.0 })) in
    let is : c.in-Some.share ≡ negsuc 0 = omega (arith, ints) in
    let adds = c.in-Some.ensures K a at factors in
    subst (LiesIn c.minus-then-share.result) (is_negative_rest (sum_of K) (sum_of zero) (int_at K (given o.at) 2) c.in-Some.share a adds is holds) (c.minus-then-share.ensures (sum_of zero) (int_at K (given o.at) 2) rest bound)
