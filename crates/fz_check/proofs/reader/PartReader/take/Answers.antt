use Rattle.std.proofs.Common.{◌∙◌, ap, sym, subst, option_map, Err, IfSome}
use Rattle.fz_filling.specs.of_stream.Lending.{part_of}
use Rattle.fz_filling.specs.of_stream.Parts.{frame_of}
use Rattle.fz_filling.specs.of_stream.Splitting.{IsPartOfItems}
use Rattle.fz_filling.specs.of_syntax.Limits.{Limits}
use Rattle.fz_check.specs.Reading.{ReaderState}
use Rattle.fz_check.specs.Telling.{IsUnread}
use Rattle.fz_check.proofs.ReaderLemmas.{stands_next, refused_next}
use Rattle.fz_check.proofs.reader.PartReader.take.Goals as goal

pub returns-in-Ok-Some-clause-part : goal.returns-in-Ok-Some-clause-part
returns-in-Ok-Some-clause-part c = λ limits left given parts frame n.
    stands_next c.args.self.now left given parts frame n (part_of c.in-Ok-Some.part)
    (sym (ap (option_map (λ p. frame_of (part_of p))) c.in-Ok-Some.field-0-is) ∙ c.in-Ok-Some.ensures.lent ∙ ap (λ (s : ReaderState). s.splitter.waits) c.self.view_is)
    (subst (λ (l : Limits). IsPartOfItems l (part_of c.in-Ok-Some.part)) (ap (λ (s : ReaderState). s.splitter.limits) c.self.view_is ∙ n.under) (subst (λ o. IfSome o (λ p. IsPartOfItems c.self.inside.splitter.limits (part_of p))) c.in-Ok-Some.field-0-is c.in-Ok-Some.ensures.items))

pub returns-in-Err-clause-refused : goal.returns-in-Err-clause-refused
returns-in-Err-clause-refused c = λ limits ending m left given parts frame n.
    subst (IsUnread limits ending m left given parts) (sym c.stream_refusal.ensures) (refused_next c.args.self.now left given parts frame n c.self.inside.splitter (sym (ap (λ (s : ReaderState). s.splitter) c.self.view_is)) c.in-Err.error c.in-Err.ensures.fault (λ e. c.take.ensures.failed.0 (c.in-Err.is ∙ ap Err e)) c.in-Err.ensures.broken c.in-Err.ensures.broken_at_end ending m)
