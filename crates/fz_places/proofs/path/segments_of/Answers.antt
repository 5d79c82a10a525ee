use Rattle.std.proofs.Common.{◌≡◌, ◌<◌, ◌==◌, [], ◌∷◌, true, false, length, sym, ap, ◌∙◌, arith}
use Rattle.std.proofs.lemmas.Bool.Decides.{Decides-eqb}
use Rattle.std.proofs.lemmas.Slice.Eq.{ends_is}
use Rattle.fz_places.proofs.Forms.{ended_form, next_form, onward, shorter}
use Rattle.fz_places.proofs.path.segments_of.Goals as goal

pub loop-preserved : goal.loop-preserved
loop-preserved c =
    let s = c.in-Some.segment in
    let behind = c.in-Some.behind.now in
    let rest = c.loop.rest.now in
    let text = c.in-Some.ensures.segment.text in
    let left : length behind < length rest = shorter s behind rest text in
    record {
      segments = onward c.args.path.now c.loop.segments.items _ s rest behind c.loop.invariant.segments c.in-Some.ensures.segment c.in_ok-push.ensures.items;
      form = λ f. next_form s behind rest text (c.loop.invariant.form f) (λ nil. let wrong : false ≡ true = c.if-is_empty.ensures ∙ ap (λ b. length b == 0) nil in cc);
      short = omega (arith, left, c.loop.invariant.short);
    }

pub returns-then-not-ends_with-clause-none : goal.returns-then-not-ends_with-clause-none
returns-then-not-ends_with-clause-none c = λ none form.
    let ended = ended_form c.args.path.now form in
    let found : c.ends_with.result ≡ true = (ends_is Decides-eqb c.args.path.now (59 ∷ []) c.ends_with.result c.ends_with.ensures.value).1 ended.0 ended.1 in
    absurd (let wrong : true ≡ false = sym found ∙ c.if-not-ends_with.true in cc)
