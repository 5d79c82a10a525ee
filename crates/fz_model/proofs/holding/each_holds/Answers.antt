use Rattle.std.proofs.Common.{sym, ap, ◌∙◌, arith}
use Rattle.fz_builtins.specs.of_meaning.Meaning.{points}
use Rattle.fz_model.specs.Holding.{is_held, point_holds}
use Rattle.fz_builtins.proofs.of_meaning.Lists.{there_is}
use Rattle.fz_model.proofs.Together.{all_next, all_stops, all_seen}
use Rattle.fz_model.proofs.holding.each_holds.Goals as goal

pub returns-then-not-is_held : goal.returns-then-not-is_held
returns-then-not-is_held c =
    let ps = points c.args.model.now in
    let n = c.loop-number.number in
    let (p, at) = there_is ps n (omega (arith, c.loop-number-test.true, c.points-number-end.ensures.counted)) in
    all_stops (point_holds c.args.partial.now) ps n p at
    (sym (c.is_held.ensures ∙ ap is_held (c.in_ok-found.ensures.exact p at)) ∙ c.if-not-is_held.true)

pub loop-number-preserved : goal.loop-number-preserved
loop-number-preserved c =
    let ps = points c.args.model.now in
    let n = c.loop-number.number in
    let (p, at) = there_is ps n (omega (arith, c.loop-number-test.true, c.points-number-end.ensures.counted)) in
    all_next (point_holds c.args.partial.now) ps n p at c.loop-number.invariant
    (sym (c.is_held.ensures ∙ ap is_held (c.in_ok-found.ensures.exact p at)) ∙ c.if-not-is_held.false)

pub returns : goal.returns
returns c =
    all_seen (point_holds c.args.partial.now) (points c.args.model.now) c.loop-number.number
    (omega (arith, c.loop-number-test.false, c.points-number-end.ensures.counted)) c.loop-number.invariant
