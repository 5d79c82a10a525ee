use Rattle.std.proofs.Common.{◌≡◌, ◌++◌, ◌+◌, ◌≤◌, length, Some, option_map, IfSome, refl, sym, ap, ◌∙◌, subst, ⊎_elim}
use Rattle.fz_syntax.specs.Limits.{Limits}
use Rattle.fz_stream.specs.Broken.{BreaksAfter, CannotGoOn, CannotEnd}
use Rattle.fz_stream.specs.declared.error.StreamError.TheVariants.{Failed as FailedBefore}
use Rattle.fz_stream.specs.declared.splitter.Frame.TheVariants as lent
use Rattle.fz_stream.specs.declared.splitter.Stage.TheVariants.{Running, Finished, Failed}
use Rattle.fz_stream.specs.Lending.{plain_frame, FrameEndsWithin}
use Rattle.fz_stream.specs.Parts.{BlockFrame}
use Rattle.fz_stream.specs.Splitting.{SplitterState}
use Rattle.fz_stream.specs.Step.{IsLineFault}
use Rattle.fz_stream.proofs.FaultLemmas.{line_fault, fault_more}
use Rattle.fz_stream.proofs.TakeLemmas.{broken_inside, broken_last}
use Rattle.fz_stream.proofs.splitter.Splitter.take.Goals as goal

pub returns-in-Err : goal.returns-in-Err
returns-in-Err c =
    let stage = ap (λ (s : SplitterState). s.stage) c.self.view_is in
    let limits = ap (λ (s : SplitterState). s.limits) c.self.view_is in
    let is : c.frame.result ≡ Some (lent.Block c.in-Some-Block.offset c.in-Some-Block.text) = c.in-Some-Block.is ∙ ap Some c.in-Some-Block.field-0-is in
    let waits : c.args.self.now.waits ≡ Some (BlockFrame c.in-Some-Block.offset c.in-Some-Block.text.now) = sym c.frame.ensures.waits ∙ ap (option_map plain_frame) is in
    let within : c.in-Some-Block.offset + length c.in-Some-Block.text.now ≤ c.args.self.now.taken = subst (λ o. IfSome o (FrameEndsWithin c.args.self.now.taken)) is c.frame.ensures.within in
    record {
      lent = tt;
      items = tt;
      places = tt;
      within = tt;
      broken = λ memory _ bytes more frames frame f. subst (λ (l : Limits). BreaksAfter l CannotGoOn (bytes ++ more) frames c.in-Err.e) limits (broken_inside _ _ _ (c.in-Err.ensures.refused memory) c.in-Err.e c.in-Err.ensures.tells _ waits c.args.self.now refl bytes more frames frame f);
      broken_at_end = λ memory _ bytes frames ends. subst (λ (l : Limits). BreaksAfter l CannotEnd bytes frames c.in-Err.e) limits (broken_last _ _ _ (c.in-Err.ensures.refused memory) c.in-Err.e c.in-Err.ensures.tells _ waits bytes frames ends);
      failed = (
        (λ e. absurd (let same : c.in-Err.e ≡ FailedBefore = cc in subst IsLineFault same c.in-Err.ensures.fault)),
        (λ e. absurd (⊎_elim (λ r. let no : Running ≡ Failed = sym r ∙ stage ∙ e in cc) (λ r. let no : Finished ≡ Failed = sym r ∙ stage ∙ e in cc) c.in-Running.is)),
      );
      fault = λ _. line_fault c.in-Err.e c.in-Err.ensures.fault;
      place = fault_more _ _ c.in-Err.e within c.in-Err.ensures.place;
    }
