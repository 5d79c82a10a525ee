use Rattle.std.proofs.lemmas.Result.{IfErr-weaker}
use Rattle.fz_check.proofs.StreamingLemmas.{accepted_of, reported_of}
use Rattle.fz_check.proofs.streaming.check_events.Goals as goal

pub returns-clause-accepted : goal.returns-clause-accepted
returns-clause-accepted g c =
    accepted_of c.args.options c.args.model.now c.in-Ok.loaded c.in-Ok.ensures.loaded _ _ c.check_loaded.result c.check_loaded.ensures.accepted

pub returns-clause-report : goal.returns-clause-report
returns-clause-report g c =
    reported_of c.args.options c.args.model.now c.in-Ok.loaded c.in-Ok.ensures.loaded _ _ c.check_loaded.result g.T.Taker.text _ _ c.check_loaded.ensures.report

pub returns-clause-refused : goal.returns-clause-refused
returns-clause-refused g c =
    IfErr-weaker c.check_loaded.result _ _ (λ e f. f c.args.model.now c.in-Ok.ensures.loaded) c.check_loaded.ensures.refused
