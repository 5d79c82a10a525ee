use Rattle.fz_model.specs.of_builtins.of_kernel.Given.{bools_at}
use Rattle.fz_bounds.specs.Within.{given}
use Rattle.fz_bounds.proofs.Lists.{truths_in_order}
use Rattle.fz_bounds.proofs.bounded.BoundedConstraint.truth_at.Goals as goal

pub returns : goal.returns
returns c = λ K h b at.
    let s = c.args.self.now in
    let i = c.args.index in
    c.between.ensures b (truths_in_order (bools_at s.lowest.now (given s) i) (bools_at K (given s) i) c.args.place c.must_be.result b h.low c.must_be.ensures at) (truths_in_order (bools_at K (given s) i) (bools_at s.highest.now (given s) i) c.args.place b c.may_be.result h.high at c.may_be.ensures)
