use Rattle.std.proofs.Common.{◌≡◌, true, false, ◌&&◌, length, FitsSigned, w64, refl, sym, ap, ◌∙◌, rules}
use Rattle.std.specs.FinSet.{from_list, is_subset}
use Rattle.std.proofs.lemmas.Int.{to_z-of_z}
use Rattle.fz_globals.specs.of_meaning.Builtins.{row_at}
use Rattle.fz_globals.specs.of_meaning.Relations.{◌=ˢ◌, chosen, indices_from}
use Rattle.fz_globals.specs.of_meaning.Results.{result_of}
use Rattle.fz_globals.specs.of_kernel.Given.{int_at, ints_at, set_at}
use Rattle.fz_globals.specs.of_kernel.Views.{arguments_of, assigned, ints}
use Rattle.fz_globals.proofs.of_kernel.Read.{ints_counted}
use Rattle.fz_builtins.proofs.ElementReadings.{ints_are}
use Rattle.fz_builtins.proofs.RowTests.{value_is}
use Rattle.fz_builtins.proofs.flags.range.Goals as goal

pub returns-then-not-are_indices : goal.returns-then-not-are_indices
unfolding row_at result_of
returns-then-not-are_indices c =
    let K = assigned c.args.view.now in
    let xs = arguments_of c.args.view.now in
    let numbers = ints_are c.elements-numbers.result K xs 0 c.elements-numbers.ensures.slots c.elements-numbers.ensures.under in
    let counted : c.len.result ≡ length (ints_at K xs 0) = ints_counted c.elements-numbers.result c.len.result c.len.ensures.counted ∙ ap length numbers in
    let fits : FitsSigned w64 c.int-offset.result = search rules in
    let read : c.are_indices.result ≡ is_subset c.set-indices.result.now (indices_from c.int-offset.result c.len.result) = simp to_z-of_z at c.are_indices.ensures.exact in
    let told : c.are_indices.result ≡ is_subset (set_at K xs 2) (indices_from (int_at K xs 1) (length (ints_at K xs 0))) = read ∙ (λ i. is_subset (c.set-indices.ensures.read i) (indices_from (c.int-offset.ensures.read i) (counted i))) in
    let outside : c.are_indices.result ≡ false = search rules in
    λ first. ((refl, refl, refl), λ v. ap (λ b. b && (v =ˢ from_list (chosen (int_at K xs 1) (ints_at K xs 0) (set_at K xs 2)))) (sym told ∙ outside))

pub returns : goal.returns
unfolding row_at result_of
returns c =
    let K = assigned c.args.view.now in
    let xs = arguments_of c.args.view.now in
    let numbers = ints_are c.elements-numbers.result K xs 0 c.elements-numbers.ensures.slots c.elements-numbers.ensures.under in
    let counted : c.len.result ≡ length (ints_at K xs 0) = ints_counted c.elements-numbers.result c.len.result c.len.ensures.counted ∙ ap length numbers in
    let fits : FitsSigned w64 c.int-offset.result = search rules in
    let read : c.are_indices.result ≡ is_subset c.set-indices.result.now (indices_from c.int-offset.result c.len.result) = simp to_z-of_z at c.are_indices.ensures.exact in
    let told : c.are_indices.result ≡ is_subset (set_at K xs 2) (indices_from (int_at K xs 1) (length (ints_at K xs 0))) = read ∙ (λ i. is_subset (c.set-indices.ensures.read i) (indices_from (c.int-offset.ensures.read i) (counted i))) in
    let inside : c.are_indices.result ≡ true = search rules in
    let made : c.in_ok-chosen.chosen ≡ from_list (chosen c.int-offset.result (ints c.elements-numbers.result) c.set-indices.result.now) = simp to_z-of_z at c.in_ok-chosen.ensures.exact in
    let listed = made ∙ (λ i. from_list (chosen (c.int-offset.ensures.read i) (numbers i) (c.set-indices.ensures.read i))) in
    λ first. ((refl, refl, refl), λ v. ap (λ b. b && (v =ˢ from_list (chosen (int_at K xs 1) (ints_at K xs 0) (set_at K xs 2)))) (sym told ∙ inside) ∙ value_is ◌=ˢ◌ listed v)
