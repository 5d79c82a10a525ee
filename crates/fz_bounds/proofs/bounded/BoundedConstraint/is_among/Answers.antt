use Rattle.std.proofs.Common.{◌≡◌, ℤ, false, slice_get, Some, arith, rules}
use borrow.Author.Count.{below_more}
use Rattle.fz_model.specs.Relations.{◌=ℤ◌}
use Rattle.fz_model.specs.of_builtins.of_kernel.Given.{ints_at}
use Rattle.fz_bounds.specs.Within.{given}
use Rattle.fz_bounds.proofs.Failed.{never_so}
use Rattle.fz_bounds.proofs.Indexed.{none_passes}
use Rattle.fz_bounds.proofs.Lists.{is_within}
use Rattle.fz_bounds.proofs.bounded.BoundedConstraint.is_among.Goals as goal

pub loop-place-preserved : goal.loop-place-preserved
loop-place-preserved c = λ K f v g.
    let ns = ints_at K (given c.args.self.now) c.args.array in
    below_more (λ i. (n : ℤ) → slice_get ns i ≡ Some n → (n =ℤ v) ≡ false) c.loop-place.place (c.loop-place.invariant K f v g)
    (λ n at. never_so c.equal.result (n =ℤ v) (search rules) (c.equal.ensures n v (c.number_at.ensures K f n at) g))

pub returns : goal.returns
returns c = λ K f v g.
    let xs = given c.args.self.now in
    none_passes (λ x. x =ℤ v) (ints_at K xs c.args.array)
    (λ i n at. let within = is_within K xs c.args.array i n at in c.loop-place.invariant K f v g i (omega arith) n at)
