use Rattle.std.proofs.Common.{◌≡◌, ◌+◌, ◌+ℤ◌, ◌-ℤ◌, pos, false, length, Some, None, FitsSigned, w64, sym, ap, ◌∙◌, rules}
use Rattle.std.specs.Option.{option_map_or}
use Rattle.std.proofs.lemmas.Int.{to_z-of_z}
use Rattle.fz_builtins.specs.of_meaning.Relations.{element_at}
use Rattle.fz_builtins.specs.of_kernel.Given.{bools_of}
use Rattle.fz_builtins.specs.of_kernel.Views.{bools}
use Rattle.fz_builtins.specs.Readings.{truths}
use Rattle.fz_builtins.proofs.of_kernel.Passed.{element_found, none_found}
use Rattle.fz_builtins.proofs.of_kernel.Read.{bools_counted}
use Rattle.fz_reasons.proofs.members.is_true_at.Goals as goal

pub returns-in-Some : goal.returns-in-Some
returns-in-Some c =
    let n = c.args.number in
    let o = c.int.result in
    let bs = bools c.elements-flags.result in
    let fits_n : FitsSigned w64 n = c.ranges.number in
    let fits_o : FitsSigned w64 o = search rules in
    let same : bs ≡ truths c.args.view.now 1 = λ i. bools_of (c.elements-flags.ensures.under i) (c.elements-flags.ensures.slots i) in
    let place : (n -ℤ o) +ℤ pos 1 ≡ pos (c.in-Some.place + 1) = simp to_z-of_z at c.in-Some.ensures.place in
    let found : element_at bs ((n -ℤ o) +ℤ pos 1) ≡ Some c.truth.result = element_found bs ((n -ℤ o) +ℤ pos 1) c.in-Some.place c.truth.result place c.truth.ensures.read in
    sym (ap (λ p. option_map_or (λ t. t) p false) ((λ i. element_at (sym same i) ((n -ℤ sym c.int.ensures.read i) +ℤ pos 1)) ∙ found))

pub returns-in-None : goal.returns-in-None
returns-in-None c =
    let n = c.args.number in
    let o = c.int.result in
    let bs = bools c.elements-flags.result in
    let fits_n : FitsSigned w64 n = c.ranges.number in
    let fits_o : FitsSigned w64 o = search rules in
    let same : bs ≡ truths c.args.view.now 1 = λ i. bools_of (c.elements-flags.ensures.under i) (c.elements-flags.ensures.slots i) in
    let counted : c.len.result ≡ length bs = bools_counted c.elements-flags.result c.len.result c.len.ensures.counted in
    let none : element_at bs ((n -ℤ o) +ℤ pos 1) ≡ None = none_found bs ((n -ℤ o) +ℤ pos 1) c.len.result counted (simp to_z-of_z at c.in-None.ensures.none) in
    sym (ap (λ p. option_map_or (λ t. t) p false) ((λ i. element_at (sym same i) ((n -ℤ sym c.int.ensures.read i) +ℤ pos 1)) ∙ none))
