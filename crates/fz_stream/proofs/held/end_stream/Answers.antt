use Rattle.std.proofs.Common.{take, arith}
use Rattle.std.proofs.lemmas.Result.{IfOk-weaker, IfErr-weaker}
use Rattle.fz_stream.proofs.EndLemmas.{ends_without, ends_line, ends_last, ends_broken}
use Rattle.fz_stream.proofs.held.end_stream.Goals as goal

-- there is no current line
pub returns-then-held-len-clause-ends : goal.returns-then-held-len-clause-ends
returns-then-held-len-clause-ends c =
    let h = c.args.held.now in
    IfOk-weaker c.end_open.result _ _ (λ r holds bytes frames s. holds bytes frames h.before (take h.line h.buffer.items) (ends_without h bytes frames s (omega (arith, h.buffer.ok.0)))) c.end_open.ensures.ends

pub returns-then-held-len-clause-broken : goal.returns-then-held-len-clause-broken
returns-then-held-len-clause-broken c =
    let h = c.args.held.now in
    IfErr-weaker c.end_open.result _ _ (λ span holds limits bytes frames s. holds limits bytes frames (ends_without h bytes frames s (omega (arith, h.buffer.ok.0)))) c.end_open.ensures.broken

-- the last line ends nothing, ends a frame, or isn't allowed there
pub returns-in-Ok-None-clause-ends : goal.returns-in-Ok-None-clause-ends
returns-in-Ok-None-clause-ends c =
    let h = c.args.held.now in
    let new = c.end_line.new.held in
    IfOk-weaker c.end_open-in-Ok-None.result _ _ (λ r holds bytes frames s. holds bytes frames new.before (take new.line new.buffer.items) (ends_line h bytes frames s (omega (arith, h.buffer.ok.0)) new (rw c.in-Ok-None.field-0-is at c.in-Ok-None.ensures.ends))) c.end_open-in-Ok-None.ensures.ends

pub returns-in-Ok-None-clause-broken : goal.returns-in-Ok-None-clause-broken
returns-in-Ok-None-clause-broken c =
    let h = c.args.held.now in
    IfErr-weaker c.end_open-in-Ok-None.result _ _ (λ span holds limits bytes frames s. holds limits bytes frames (ends_line h bytes frames s (omega (arith, h.buffer.ok.0)) c.end_line.new.held (rw c.in-Ok-None.field-0-is at c.in-Ok-None.ensures.ends))) c.end_open-in-Ok-None.ensures.broken

pub returns-in-Ok-Some-clause-ends : goal.returns-in-Ok-Some-clause-ends
returns-in-Ok-Some-clause-ends c bytes frames s =
    let h = c.args.held.now in
    ends_last h bytes frames s (omega (arith, h.buffer.ok.0)) c.end_line.new.held c.in-Ok-Some.ended (rw c.in-Ok-Some.field-0-is at c.in-Ok-Some.ensures.ends)

pub returns-in-Err-clause-broken : goal.returns-in-Err-clause-broken
returns-in-Err-clause-broken c limits bytes frames s =
    let h = c.args.held.now in
    ends_broken h bytes frames s (omega (arith, h.buffer.ok.0)) limits _ (c.in-Err.ensures.breaks limits)
