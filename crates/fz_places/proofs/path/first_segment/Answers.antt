use Rattle.std.proofs.Common.{arith}
use Rattle.fz_places.proofs.Forms.{first_at, no_form}
use Rattle.fz_places.proofs.path.first_segment.Goals as goal

pub returns-in-Some-clause-segment : goal.returns-in-Some-clause-segment
returns-in-Some-clause-segment c =
    first_at c.args.text.now c.split_at.result.0.now c.split_at.result.1.now c.loop-length.length c.in-Some.found.0 c.in-Some.found.1.now
    c.split_at.ensures.front c.split_at.ensures.back (omega (arith, c.loop-length-test.true)) c.loop-length.invariant
    c.in-Some.ensures.text c.in-Some.ensures.form c.in-Some.ensures.file

pub returns-clause-none : goal.returns-clause-none
returns-clause-none c = λ none form. no_form c.args.text.now
    (λ n less. c.loop-length.invariant n (omega (arith, less, c.loop-length-test.false))) form
