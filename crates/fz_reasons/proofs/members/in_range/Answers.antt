use Rattle.std.proofs.Common.{◌≡◌, length, FitsSigned, w64, to_z, of_z, sym, ap, ◌∙◌, rules}
use Rattle.std.specs.FinSet.{contains}
use Rattle.std.proofs.lemmas.Int.{to_z-of_z}
use Rattle.fz_builtins.specs.of_meaning.Relations.{chosen, is_among}
use Rattle.fz_builtins.specs.of_kernel.Given.{int_at, ints_at, ints_of, set_at}
use Rattle.fz_builtins.specs.of_kernel.Views.{arguments_of, assigned, ints}
use Rattle.fz_builtins.proofs.of_kernel.Read.{ints_counted}
use Rattle.fz_reasons.specs.Reasons.{is_no_index}
use Rattle.fz_reasons.proofs.members.in_range.Goals as goal

pub returns : goal.returns
returns c =
    let n = c.args.number in
    let o = c.int-offset.result in
    let K = assigned c.args.view.now in
    let xs = arguments_of c.args.view.now in
    let s = c.set-indices.result.now in
    let fits_o : FitsSigned w64 o = search rules in
    let same : to_z w64 (of_z w64 n) ≡ n = to_z-of_z w64 n c.ranges.number in
    let same_o : to_z w64 (of_z w64 o) ≡ int_at K xs 1 = to_z-of_z w64 o fits_o ∙ c.int-offset.ensures.read in
    let elements : ints c.elements-elements.result ≡ ints_at K xs 0 = λ i. ints_of (c.elements-elements.ensures.under i) (c.elements-elements.ensures.slots i) in
    let counted : c.len.result ≡ length (ints_at K xs 0) = ints_counted c.elements-elements.result c.len.result c.len.ensures.counted ∙ ap length elements in
    let first : c.is_chosen.result ≡ is_among n (chosen (int_at K xs 1) (ints_at K xs 0) (set_at K xs 2)) =
    c.is_chosen.ensures ∙ (λ i. is_among (same i) (chosen (same_o i) (elements i) (c.set-indices.ensures.read i))) in
    let second : c.contains.result ≡ contains (set_at K xs 3) n =
    c.contains.ensures ∙ (λ i. contains (c.set.ensures.read i) (same i)) in
    let third : c.is_no_index.result ≡ is_no_index (int_at K xs 1) (length (ints_at K xs 0)) (set_at K xs 2) n =
    c.is_no_index.ensures ∙ (λ i. is_no_index (same_o i) (counted i) (c.set-indices.ensures.read i) (same i)) in
    λ i. (sym first i, sym second i, sym third i)
