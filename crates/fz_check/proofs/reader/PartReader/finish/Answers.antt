use Rattle.std.proofs.Common.{◌≡◌, ◌∙◌, ap, sym, subst, Err, true, false}
use Rattle.std.specs.Prelude.{IfErr}
use Rattle.fz_check.specs.Reading.{ReaderState}
use Rattle.fz_check.specs.Telling.{IsUnread}
use Rattle.fz_check.proofs.ReaderLemmas.{ended_broken, ended_more, ended_none, ended_open, ended_refused, ended_running, if_err_is}
use Rattle.fz_check.proofs.reader.PartReader.finish.Goals as goal

pub returns-then-waiting-clause-more : goal.returns-then-waiting-clause-more
returns-then-waiting-clause-more c = λ _ limits given parts h.
    (let same = sym (ap (λ (s : ReaderState). s.splitter) c.self.view_is) in
    let none = sym (ap (λ (s : ReaderState). s.pieces.pending) c.self.view_is) ∙ c.self.invariant.none (ap (λ (s : ReaderState). s.pieces.at_end) c.self.view_is ∙ c.requires.at_end) in
    ended_more c.args.self.now c.self.inside.splitter same none given parts h _ c.in-Ok.ensures.ends (c.waiting.ensures.0 c.if-waiting.true))

pub returns-clause-end : goal.returns-clause-end
returns-clause-end c = λ is limits given parts h.
    (let same = sym (ap (λ (s : ReaderState). s.splitter) c.self.view_is) in
    let none = sym (ap (λ (s : ReaderState). s.pieces.pending) c.self.view_is) ∙ c.self.invariant.none (ap (λ (s : ReaderState). s.pieces.at_end) c.self.view_is ∙ c.requires.at_end) in
    ended_none c.args.self.now c.self.inside.splitter same none given parts h _ c.in-Ok.ensures.ends
    (λ s. let no : false ≡ true = sym c.if-waiting.false ∙ c.waiting.ensures.1 s in cc))

pub returns-in-Err-clause-open : goal.returns-in-Err-clause-open
returns-in-Err-clause-open c = λ span is limits given parts h.
    (let same = sym (ap (λ (s : ReaderState). s.splitter) c.self.view_is) in
    let none = sym (ap (λ (s : ReaderState). s.pieces.pending) c.self.view_is) ∙ c.self.invariant.none (ap (λ (s : ReaderState). s.pieces.at_end) c.self.view_is ∙ c.requires.at_end) in
    let failed = ended_running c.args.self.now c.self.inside.splitter same none given parts h c.in-Err.error (λ e. c.finish.ensures.failed.0 (c.in-Err.is ∙ ap Err e)) in
    let broken = ended_broken c.args.self.now c.self.inside.splitter same none given parts h c.in-Err.error (c.in-Err.ensures.broken failed) in
    ended_open c.args.self.now c.self.inside.splitter same none given parts h c.in-Err.error broken c.in-Err.ensures.begins span (sym c.broken_end.ensures.is ∙ is) _ c.in-Err.ensures.kept)

pub returns-in-Err-clause-refused : goal.returns-in-Err-clause-refused
returns-in-Err-clause-refused c = if_err_is c.broken_end.result _ (λ r is limits ending m left given parts h end.
    (let same = sym (ap (λ (s : ReaderState). s.splitter) c.self.view_is) in
    let none = sym (ap (λ (s : ReaderState). s.pieces.pending) c.self.view_is) ∙ c.self.invariant.none (ap (λ (s : ReaderState). s.pieces.at_end) c.self.view_is ∙ c.requires.at_end) in
    let failed = ended_running c.args.self.now c.self.inside.splitter same none given parts h c.in-Err.error (λ e. c.finish.ensures.failed.0 (c.in-Err.is ∙ ap Err e)) in
    subst (λ x. IfErr x (IsUnread limits ending m left given parts)) (sym c.broken_end.ensures.is ∙ is)
    (ended_refused limits ending m left given parts c.in-Err.error (c.in-Err.ensures.fault failed))))
