use Rattle.std.proofs.Common.{◌≡◌, ◌∙◌, ◌-◌, sym, ap, ap₂, arith, length, take, drop}
use Rattle.std.specs.Prelude.{bytes_eq}
use Rattle.std.proofs.lemmas.Slice.Eq.{bytes_eq-Decides}
use Rattle.fz_meaning.proofs.Ends.{fronts_decide}
use Rattle.fz_meaning.proofs.text.same_text.Goals as goal

pub eights-preserved : goal.eights-preserved
eights-preserved c =
    let xs = c.eights.left_rest.now in
    let ys = c.eights.right_rest.now in
    let long : length xs ≡ length ys = c.eights.invariant.long in
    let left = c.in-Some.ensures.cases in
    let right = c.in-Some-split_last_chunk.ensures.cases in
    let same = (bytes_eq-Decides c.in-Some.left_eight.now c.in-Some-split_last_chunk.right_eight.now).0 (sym c.same_eight.ensures ∙ c.if-not-same_eight.false) in
    let ends : drop (length xs - 8) xs ≡ drop (length xs - 8) ys = sym left.1 ∙ same ∙ right.1 ∙ ap (λ n. drop (n - 8) ys) (sym long) in
    let front : c.in-Some-split_last_chunk.right_front.now ≡ take (length xs - 8) ys = right.0 ∙ ap (λ n. take (n - 8) ys) (sym long) in
    record { long = omega arith; same = ap₂ bytes_eq left.0 front ∙ fronts_decide xs ys (length xs - 8) ends ∙ c.eights.invariant.same }
