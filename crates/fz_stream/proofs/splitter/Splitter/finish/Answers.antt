use Rattle.std.proofs.Common.{◌≡◌, refl, sym, ap, ◌∙◌, length, subst, ⊎_elim, arith}
use Rattle.fz_syntax.specs.Places.{IsSpanWithin}
use Rattle.fz_stream.specs.declared.splitter.Stage.TheVariants.{Running, Failed}
use Rattle.fz_stream.specs.Splitting.{SplitterState}
use Rattle.fz_stream.proofs.TakeLemmas.{stands_for}
use Rattle.fz_stream.proofs.splitter.Splitter.finish.Goals as goal

pub returns-in-Ok : goal.returns-in-Ok
returns-in-Ok c =
    let stage = ap (λ (s : SplitterState). s.stage) c.self.view_is in
    let running : c.self.inside.stage ≡ Running = ⊎_elim (λ r. r) (λ f. absurd (c.requires (sym stage ∙ f))) c.in-Running.is in
    let d = c.drop_frame.ensures in
    record {
      ends = λ bytes frames f. c.in-Ok.ensures.ends bytes frames (stands_for c.args.self.now _ (d.kept ∙ ap (λ (s : SplitterState). s.held) c.self.view_is) (d.line ∙ ap (λ (s : SplitterState). s.line) c.self.view_is) (d.taken ∙ ap (λ (s : SplitterState). s.taken) c.self.view_is) bytes frames f);
      ok = refl;
      broken = tt;
      failed = ((λ e. absurd cc), (λ e. absurd (let no : Running ≡ Failed = sym running ∙ stage ∙ e in cc)));
      fault = tt;
      place = tt;
      begins = tt;
      kept = tt;
      err = tt;
      limits = ap (λ (s : SplitterState). s.limits) c.self.view_is;
    }

pub returns-in-Err : goal.returns-in-Err
returns-in-Err c =
    let stage = ap (λ (s : SplitterState). s.stage) c.self.view_is in
    let running : c.self.inside.stage ≡ Running = ⊎_elim (λ r. r) (λ f. absurd (c.requires (sym stage ∙ f))) c.in-Running.is in
    let d = c.drop_frame.ensures in
    let held = d.kept ∙ ap (λ (s : SplitterState). s.held) c.self.view_is in
    let taken = d.taken ∙ ap (λ (s : SplitterState). s.taken) c.self.view_is in
    record {
      ends = tt;
      ok = tt;
      broken = λ _ bytes frames f. c.in-Err.ensures.broken _ bytes frames (stands_for c.args.self.now _ held (d.line ∙ ap (λ (s : SplitterState). s.line) c.self.view_is) taken bytes frames f);
      failed = ((λ e. absurd cc), (λ e. absurd (let no : Running ≡ Failed = sym running ∙ stage ∙ e in cc)));
      fault = λ _. (tt, λ e. absurd cc);
      place = subst (λ n. IsSpanWithin n c.in-Err.span) taken c.in-Err.ensures.place;
      begins = omega (arith, c.in-Err.ensures.begins, ap length held, taken);
      kept = c.in-Err.ensures.kept ∙ held;
      err = (refl, refl);
      limits = ap (λ (s : SplitterState). s.limits) c.self.view_is;
    }
