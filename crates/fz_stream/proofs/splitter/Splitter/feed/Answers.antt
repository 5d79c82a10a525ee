use Rattle.std.proofs.Common.{◌≡◌, ◌+◌, ℕ, List, Err, length, refl, sym, ap, ◌∙◌, subst, ⊎_elim, arith}
use Rattle.fz_syntax.specs.Limits.{Limits}
use Rattle.fz_stream.specs.declared.error.StreamError.TheVariants.{TooLong, Failed as FailedBefore}
use Rattle.fz_stream.specs.declared.splitter.Stage.TheVariants.{Running, Failed}
use Rattle.fz_stream.specs.Faults.{IsCuttingFault, IsFaultWithin}
use Rattle.fz_stream.specs.Parts.{Frame}
use Rattle.fz_stream.specs.Keeping.{Stands}
use Rattle.fz_stream.specs.Splitting.{SplitterState, Fits, HasRoomFor, PassesLimit}
use Rattle.fz_stream.proofs.TakeLemmas.{fed, cut_off, some_ended, none_ended, stands_for, short_held}
use Rattle.fz_stream.proofs.splitter.Splitter.feed.Goals as goal

pub returns-in-Ok : goal.returns-in-Ok
returns-in-Ok c =
    let stage = ap (λ (s : SplitterState). s.stage) c.self.view_is in
    let limits = ap (λ (s : SplitterState). s.limits) c.self.view_is in
    let most : c.bytes.result ≡ c.args.self.now.limits.bytes = c.bytes.ensures ∙ ap (λ (l : Limits). l.bytes) limits in
    let running : c.self.inside.stage ≡ Running = ⊎_elim (λ r. r) (λ f. absurd (c.requires (sym stage ∙ f))) c.in-Running.is in
    let d = c.drop_frame.ensures in
    let t = c.in-Ok.ensures in
    let stands : (bytes : List ℕ) (frames : List Frame) → Fits c.args.self.now bytes frames → Stands c.drop_frame.new.held bytes frames =
    stands_for c.args.self.now _ (d.kept ∙ ap (λ (s : SplitterState). s.held) c.self.view_is) (d.line ∙ ap (λ (s : SplitterState). s.line) c.self.view_is) (d.taken ∙ ap (λ (s : SplitterState). s.taken) c.self.view_is) in
    record {
      fits = λ bytes frames f. fed _ _ _ _ _ _ running t.within t.count c.in-Ok.ended bytes frames (stands bytes frames f) (t.ends bytes frames (stands bytes frames f));
      ends = λ bytes frames f. cut_off _ _ frames c.in-Ok.ended (t.ends bytes frames (stands bytes frames f));
      some = λ some. t.some (some_ended c.in-Ok.ended _ _ some);
      all = λ none. t.all (none_ended c.in-Ok.ended _ _ none);
      within = t.within;
      ok = running;
      held = short_held c.in-Ok.ended _ _ (omega (arith, t.most_after, c.bytes.ensures));
      taken = t.taken_after;
      room = λ bytes frames f. subst (λ m. HasRoomFor m bytes c.args.piece.now frames c.in-Ok.n) most (t.room bytes frames (stands bytes frames f));
      broken = tt;
      too_long = λ e. absurd cc;
      failed = ((λ e. absurd cc), (λ e. absurd (let no : Running ≡ Failed = sym running ∙ stage ∙ e in cc)));
      fault = tt;
      place = tt;
      err = tt;
      limits = limits;
    }

pub returns-in-Err : goal.returns-in-Err
returns-in-Err c =
    let stage = ap (λ (s : SplitterState). s.stage) c.self.view_is in
    let limits = ap (λ (s : SplitterState). s.limits) c.self.view_is in
    let most : c.bytes.result ≡ c.args.self.now.limits.bytes = c.bytes.ensures ∙ ap (λ (l : Limits). l.bytes) limits in
    let running : c.self.inside.stage ≡ Running = ⊎_elim (λ r. r) (λ f. absurd (c.requires (sym stage ∙ f))) c.in-Running.is in
    let d = c.drop_frame.ensures in
    let taken = d.taken ∙ ap (λ (s : SplitterState). s.taken) c.self.view_is in
    let stands : (bytes : List ℕ) (frames : List Frame) → Fits c.args.self.now bytes frames → Stands c.drop_frame.new.held bytes frames =
    stands_for c.args.self.now _ (d.kept ∙ ap (λ (s : SplitterState). s.held) c.self.view_is) (d.line ∙ ap (λ (s : SplitterState). s.line) c.self.view_is) taken in
    record {
      fits = tt;
      ends = tt;
      some = tt;
      all = tt;
      within = tt;
      ok = tt;
      held = tt;
      taken = tt;
      room = tt;
      broken = λ memory long _ bytes frames f. c.in-Err.ensures.broken memory long _ bytes frames (stands bytes frames f);
      too_long = λ e bytes frames f. (let same : c.in-Err.e ≡ TooLong = cc in subst (λ m. PassesLimit m bytes c.args.piece.now frames) most (c.take_bytes.ensures.too_long (c.in-Err.is ∙ ap Err same) bytes frames (stands bytes frames f)));
      failed = (
        (λ e. absurd (let same : c.in-Err.e ≡ FailedBefore = cc in subst IsCuttingFault same c.in-Err.ensures.fault)),
        (λ e. absurd (let no : Running ≡ Failed = sym running ∙ stage ∙ e in cc)),
      );
      fault = λ _. c.in-Err.ensures.fault;
      place = subst (λ n. IsFaultWithin (n + length c.args.piece.now) c.in-Err.e) taken c.in-Err.ensures.place;
      err = (refl, refl);
      limits = limits;
    }
