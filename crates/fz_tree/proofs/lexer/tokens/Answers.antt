use Rattle.std.proofs.Common.{◌≡◌, slice_range, refl, ◌∙◌}
use Rattle.std.proofs.lemmas.List.{map-append, append-nil}
use Rattle.fz_tree.specs.Lexing.{nothing, IsTokenWithinLimit}
use Rattle.fz_tree.specs.Spanned.{spanned, all_spanned}
use Rattle.fz_tree.proofs.Cuts.{cut_then}
use Rattle.fz_tree.proofs.Next.{all_push}
use Rattle.fz_tree.proofs.lexer.tokens.Goals as goal

pub loop-tokens-init : goal.loop-tokens-init
loop-tokens-init c = record {
  same_source = refl;
  cut = rw c.new-tokens.ensures.items (nothing 0);
  numbers = rw c.new-tokens.ensures.items tt;
  texts = rw c.new-tokens.ensures.items tt;
}

pub loop-tokens-preserved : goal.loop-tokens-preserved
loop-tokens-preserved c =
    let now = c.loop-tokens.invariant in
    let next = rw c.in-Some.is at c.in_ok-token.ensures.token in
    let here = rw now.same_source at next in
    let items = c.loop-tokens.tokens.items in
    let token = c.in-Some.token in
    record {
      same_source = c.in_ok-token.ensures.source ∙ now.same_source;
      cut = rw (c.in_ok-push.ensures.items, map-append) (cut_then now.cut here.0);
      numbers = rw (c.in_ok-push.ensures.items, map-append) (all_push (λ t. IsTokenWithinLimit t.token) (all_spanned items) (spanned token) now.numbers here.1);
      texts = rw c.in_ok-push.ensures.items (all_push (λ t. t.text.now ≡ slice_range c.args.source.now t.span.start t.span.end) items token now.texts here.2);
    }

pub returns-clause-found : goal.returns-clause-found
returns-clause-found c =
    let now = c.loop-tokens.invariant in
    let next = rw c.in_default.is at c.in_ok-token.ensures.token in
    let here = rw now.same_source at next in
    let whole = rw append-nil at (cut_then now.cut here) in
    (whole, now.numbers, now.texts)
