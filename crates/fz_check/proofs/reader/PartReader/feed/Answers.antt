use Rattle.std.proofs.Common.{◌≡◌, ◌≢◌, ◌∙◌, ap, sym, subst, Err, true, false}
use Rattle.fz_filling.specs.of_stream.declared.error.StreamError.TheVariants as stream
use Rattle.fz_filling.specs.of_stream.declared.splitter.Stage.TheVariants.{Running, Failed}
use Rattle.fz_check.specs.Reading.{ReaderState}
use Rattle.fz_check.specs.Telling.{IsUnread}
use Rattle.fz_check.proofs.CutLemmas.{inside_by}
use Rattle.fz_check.proofs.ReaderLemmas.{fed_more, fed_none, fed_refused, cutting_fault, unread}
use Rattle.fz_check.proofs.reader.PartReader.feed.Goals as goal

pub returns-then-waiting-clause-more : goal.returns-then-waiting-clause-more
returns-then-waiting-clause-more c = λ _ limits given parts h.
    fed_more c.args.self.now c.self.inside.splitter c.self.inside.pieces c.self.view_is (record { splitter = c.feed.new.self; pieces = c.take.new.self }) c.pending.result.now c.in-Ok.n c.pending.ensures c.in-Ok.ensures.fits c.take.ensures.left c.in-Ok.ensures.taken given parts h (c.waiting.ensures.0 c.if-waiting.true)

pub returns-clause-none : goal.returns-clause-none
returns-clause-none c = λ _ limits given parts h.
    fed_none c.args.self.now c.self.inside.splitter c.self.inside.pieces c.self.view_is (record { splitter = c.feed.new.self; pieces = c.take.new.self }) c.pending.result.now c.in-Ok.n c.pending.ensures c.in-Ok.ensures.fits c.take.ensures.left c.in-Ok.ensures.taken given parts h c.feed.ensures.limits
    (λ s. let no : false ≡ true = sym c.if-waiting.false ∙ c.waiting.ensures.1 s in cc) c.in-Ok.ensures.all

pub returns-in-Err-clause-refused : goal.returns-in-Err-clause-refused
returns-in-Err-clause-refused c = λ limits ending m left given parts h.
    (let failed : c.in-Err.error ≢ stream.Failed = λ e. (let no : Running ≡ Failed = sym h.fits.running ∙ sym (ap (λ (s : ReaderState). s.splitter.stage) c.self.view_is) ∙ c.feed.ensures.failed.0 (c.in-Err.is ∙ ap Err e) in cc) in
    subst (IsUnread limits ending m left given parts) (sym c.stream_refusal.ensures) (unread limits ending m left given parts c.in-Err.error (λ _. cutting_fault c.in-Err.error (c.in-Err.ensures.fault failed)) (λ memory.
    inside_by ending m left given parts c.in-Err.error (fed_refused c.args.self.now c.self.inside.splitter c.self.inside.pieces c.self.view_is c.pending.result.now c.pending.ensures given parts h c.in-Err.error (λ long. c.in-Err.ensures.broken memory long failed) (λ e. c.feed.ensures.too_long (c.in-Err.is ∙ ap Err e))))))
