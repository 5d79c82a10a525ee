use Rattle.std.proofs.Common.{◌≡◌, ◌≢◌, ◌∙◌, ap, sym, inl, inr, true, false, length, arith}
use Rattle.fz_filling.specs.of_stream.declared.splitter.Stage.TheVariants.{Finished}
use Rattle.fz_check.specs.Reading.{PiecesState, ReaderState, is_going}
use Rattle.fz_check.proofs.ReaderLemmas.{stands_reading, stands_at_end}
use Rattle.fz_check.proofs.reader.PartReader.advance.Goals as goal

pub returns-then-at_end-clause-part : goal.returns-then-at_end-clause-part
returns-then-at_end-clause-part c = λ is limits left given parts st.
    (let going : c.args.self.now.splitter.stage ≢ Finished = λ f. (let no : false ≡ true = sym c.if-self.false ∙ c.self.invariant.ended.1 (ap (λ (s : ReaderState). s.splitter.stage) c.self.view_is ∙ f) in cc) in
    let end = stands_at_end c.args.self.now left given parts (sym (ap (λ (s : ReaderState). s.pieces.at_end) c.self.view_is) ∙ sym c.at_end.ensures ∙ c.if-at_end.true) st in
    let h = stands_reading c.args.self.now left given parts going st in
    let more = c.finish.ensures.more is limits given parts h in
    (more.0, record { under = c.finish.ensures.limits ∙ h.under; waits = more.1; items = h.items; ends = inr (end, c.finish.ensures.ended is, more.2) }))

pub returns-then-at_end-clause-fewer : goal.returns-then-at_end-clause-fewer
returns-then-at_end-clause-fewer c = λ is limits left given parts st.
    (let going : c.args.self.now.splitter.stage ≢ Finished = λ f. (let no : false ≡ true = sym c.if-self.false ∙ c.self.invariant.ended.1 (ap (λ (s : ReaderState). s.splitter.stage) c.self.view_is ∙ f) in cc) in
    let h = stands_reading c.args.self.now left given parts going st in
    omega (arith, ap is_going (c.finish.ensures.ended is), ap is_going h.fits.running, ap (λ (p : PiecesState). p.reads) c.finish.ensures.same, ap (λ (p : PiecesState). length p.pending) c.finish.ensures.same))

pub returns-clause-part : goal.returns-clause-part
returns-clause-part c = λ is limits left given parts st.
    (let going : c.args.self.now.splitter.stage ≢ Finished = λ f. (let no : false ≡ true = sym c.if-self.false ∙ c.self.invariant.ended.1 (ap (λ (s : ReaderState). s.splitter.stage) c.self.view_is ∙ f) in cc) in
    let h = stands_reading c.args.self.now left given parts going st in
    let more = c.feed.ensures.more is limits given parts h in
    (more.0, record { under = c.feed.ensures.limits ∙ h.under; waits = more.1; items = h.items; ends = inl (more.2, λ e. stands_at_end c.args.self.now left given parts (sym c.feed.ensures.at_end ∙ e) st) }))

pub returns-clause-fewer : goal.returns-clause-fewer
returns-clause-fewer c = λ is limits left given parts st.
    (let going : c.args.self.now.splitter.stage ≢ Finished = λ f. (let no : false ≡ true = sym c.if-self.false ∙ c.self.invariant.ended.1 (ap (λ (s : ReaderState). s.splitter.stage) c.self.view_is ∙ f) in cc) in
    let h = stands_reading c.args.self.now left given parts going st in
    let more = c.feed.ensures.more is limits given parts h in
    omega (arith, ap is_going more.2.fits.running, ap is_going h.fits.running, c.feed.ensures.reads, c.feed.ensures.fewer is limits given parts h))

pub returns-then-at_end-clause-end : goal.returns-then-at_end-clause-end
returns-then-at_end-clause-end c = λ is limits left given parts st.
    (let going : c.args.self.now.splitter.stage ≢ Finished = λ f. (let no : false ≡ true = sym c.if-self.false ∙ c.self.invariant.ended.1 (ap (λ (s : ReaderState). s.splitter.stage) c.self.view_is ∙ f) in cc) in
    let end = stands_at_end c.args.self.now left given parts (sym (ap (λ (s : ReaderState). s.pieces.at_end) c.self.view_is) ∙ sym c.at_end.ensures ∙ c.if-at_end.true) st in
    (end, c.finish.ensures.end is limits given parts (stands_reading c.args.self.now left given parts going st)))

pub returns-then-at_end-clause-left_open : goal.returns-then-at_end-clause-left_open
returns-then-at_end-clause-left_open c = λ span is limits left given parts st.
    (let going : c.args.self.now.splitter.stage ≢ Finished = λ f. (let no : false ≡ true = sym c.if-self.false ∙ c.self.invariant.ended.1 (ap (λ (s : ReaderState). s.splitter.stage) c.self.view_is ∙ f) in cc) in
    let end = stands_at_end c.args.self.now left given parts (sym (ap (λ (s : ReaderState). s.pieces.at_end) c.self.view_is) ∙ sym c.at_end.ensures ∙ c.if-at_end.true) st in
    (end, c.finish.ensures.open span is limits given parts (stands_reading c.args.self.now left given parts going st)))

pub returns-clause-bytes : goal.returns-clause-bytes
returns-clause-bytes c = λ is limits left given parts st.
    (let going : c.args.self.now.splitter.stage ≢ Finished = λ f. (let no : false ≡ true = sym c.if-self.false ∙ c.self.invariant.ended.1 (ap (λ (s : ReaderState). s.splitter.stage) c.self.view_is ∙ f) in cc) in
    c.feed.ensures.none is limits given parts (stands_reading c.args.self.now left given parts going st))
