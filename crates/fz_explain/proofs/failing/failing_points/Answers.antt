use Rattle.std.proofs.Common.{◌≡◌, ◌≤◌, ◌<◌, ◌∙◌, length, ap, arith}
use Rattle.fz_filling.specs.of_model.Meaning.{points}
use Rattle.fz_explain.specs.Told.{is_sought}
use Rattle.fz_explain.specs.declared.failing.Sought.TheVariants.{Failing}
use Rattle.fz_explain.proofs.Each.{failing_all, failing_next}
use Rattle.fz_explain.proofs.failing.failing_points.Goals as goal

pub loop-number-preserved : goal.loop-number-preserved
loop-number-preserved c =
    let less : c.loop-number.number < length (points c.args.model.now) = omega (arith, c.loop-number-test.true, c.points-number-end.ensures.counted) in
    failing_next c.args.filling.now (points c.args.model.now) c.loop-number.number c.loop-number.failing.items c.push_where.new.numbers.items c.fits-fails.result
    less (λ p at. c.fits-fails.ensures ∙ ap (is_sought Failing) (c.in_ok-state.ensures.exact p at)) c.loop-number.invariant c.in_ok-push_where.ensures

pub returns : goal.returns
returns c =
    let over : length (points c.args.model.now) ≤ c.loop-number.number = omega (arith, c.loop-number-test.false, c.points-number-end.ensures.counted) in
    failing_all c.args.filling.now (points c.args.model.now) c.loop-number.number c.loop-number.failing.items over c.loop-number.invariant
