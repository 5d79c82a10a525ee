use Rattle.std.proofs.Common.{◌≡◌, pos, true, false, ◌&&◌, length, refl, sym, ap, ◌∙◌, rules}
use Rattle.std.specs.FinSet.{is_subset}
use Rattle.fz_globals.specs.of_meaning.of_base.Sets.{NumberSet}
use Rattle.fz_globals.specs.of_meaning.Builtins.{row_at}
use Rattle.fz_globals.specs.of_meaning.Relations.{◌=ˢ◌, chosen, indices_from, union_of}
use Rattle.fz_globals.specs.of_meaning.Results.{result_of}
use Rattle.fz_globals.specs.of_kernel.Given.{set_at, sets_at}
use Rattle.fz_globals.specs.of_kernel.Views.{arguments_of, assigned}
use Rattle.fz_globals.proofs.of_kernel.Read.{sets_counted}
use Rattle.fz_builtins.proofs.ElementReadings.{sets_are}
use Rattle.fz_builtins.proofs.RowTests.{value_is}
use Rattle.fz_builtins.proofs.flags.set_element_union.Goals as goal

pub returns-then-not-are_indices : goal.returns-then-not-are_indices
unfolding row_at result_of
returns-then-not-are_indices c =
    let K = assigned c.args.view.now in
    let xs = arguments_of c.args.view.now in
    let parts = sets_are c.elements-parts.result K xs 1 c.elements-parts.ensures.slots c.elements-parts.ensures.under in
    let counted : c.len.result ≡ length (sets_at K xs 1) = sets_counted c.elements-parts.result c.len.result c.len.ensures.counted ∙ ap length parts in
    let told : c.are_indices.result ≡ is_subset (set_at K xs 0) (indices_from (pos 1) (length (sets_at K xs 1))) = c.are_indices.ensures.exact ∙ (λ i. is_subset (c.set-indices.ensures.read i) (indices_from (pos 1) (counted i))) in
    let outside : c.are_indices.result ≡ false = search rules in
    λ first. ((refl, refl, refl), λ v. ap (λ b. b && (v =ˢ union_of (chosen (pos 1) (sets_at K xs 1) (set_at K xs 0)))) (sym told ∙ outside))

pub returns : goal.returns
unfolding row_at result_of
returns c =
    let K = assigned c.args.view.now in
    let xs = arguments_of c.args.view.now in
    let parts = sets_are c.elements-parts.result K xs 1 c.elements-parts.ensures.slots c.elements-parts.ensures.under in
    let counted : c.len.result ≡ length (sets_at K xs 1) = sets_counted c.elements-parts.result c.len.result c.len.ensures.counted ∙ ap length parts in
    let told : c.are_indices.result ≡ is_subset (set_at K xs 0) (indices_from (pos 1) (length (sets_at K xs 1))) = c.are_indices.ensures.exact ∙ (λ i. is_subset (c.set-indices.ensures.read i) (indices_from (pos 1) (counted i))) in
    let inside : c.are_indices.result ≡ true = search rules in
    let united = c.in_ok-union_of_chosen.ensures.exact ∙ (λ i. union_of (chosen (pos 1) (parts i) (c.set-indices.ensures.read i))) in
    λ first. ((refl, refl, refl), λ v. ap (λ b. b && (v =ˢ union_of (chosen (pos 1) (sets_at K xs 1) (set_at K xs 0)))) (sym told ∙ inside) ∙ value_is ◌=ˢ◌ united v)
