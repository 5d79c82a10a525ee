use Rattle.std.proofs.Common.{rules, ◌≡◌, ◌∙◌, FitsSigned, w64}
use Rattle.std.proofs.lemmas.Int.{to_z-of_z}
use Rattle.fz_globals.specs.of_meaning.Relations.{are_inverse_sets}
use Rattle.fz_globals.specs.of_kernel.Views.{arguments_of, assigned, sets}
use Rattle.fz_builtins.proofs.ElementReadings.{sets_are}
use Rattle.fz_builtins.proofs.flags.inverse_set.Goals as goal

pub returns : goal.returns
returns c =
    let K = assigned c.args.view.now in
    let xs = arguments_of c.args.view.now in
    let x = sets_are c.elements.result K xs 0 c.elements.ensures.slots c.elements.ensures.under in
    let y = sets_are c.elements-2.result K xs 1 c.elements-2.ensures.slots c.elements-2.ensures.under in
    let first_fits : FitsSigned w64 c.int.result = search rules in
    let part_fits : FitsSigned w64 c.int-2.result = search rules in
    let is : c.are_inverse_sets.result ≡ are_inverse_sets (sets c.elements.result) c.int.result (sets c.elements-2.result) c.int-2.result = simp to_z-of_z at c.are_inverse_sets.ensures.exact in
    is ∙ (λ i. are_inverse_sets (x i) (c.int.ensures.read i) (y i) (c.int-2.ensures.read i))
