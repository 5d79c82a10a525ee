use Rattle.std.proofs.lemmas.Result.{IfOk-weaker}
use Rattle.fz_check.proofs.streaming.check_stream_up_to.Goals as goal

pub returns-clause-accepted : goal.returns-clause-accepted
returns-clause-accepted g c =
    IfOk-weaker c.check_events.result _ _ (λ a f count is. (f count is).holds) c.check_events.ensures.accepted

pub returns-clause-report : goal.returns-clause-report
returns-clause-report g c =
    IfOk-weaker c.check_events.result _ _ (λ a f. f.holds) c.check_events.ensures.report
