use Rattle.std.proofs.Common.{rules, ◌≡◌, Some, slice_get, sym, ap, ◌∙◌, FitsSigned, w64}
use Rattle.std.specs.Int.{w128}
use Rattle.std.proofs.lemmas.Int.{to_z-of_z}
use Rattle.fz_builtins.specs.of_meaning.Relations.{total, products}
use Rattle.fz_builtins.specs.of_kernel.Given.{ints_at}
use Rattle.fz_builtins.specs.of_kernel.Views.{arguments_of, assigned}
use Rattle.fz_builtins.proofs.ElementReadings.{ints_are}
use Rattle.fz_model.proofs.UnitRow.{unit_row}
use Rattle.fz_model.proofs.unit.unit_value.Goals as goal

pub returns-clause-left : goal.returns-clause-left
returns-clause-left c =
    let K = assigned c.args.view.now in
    let xs = arguments_of c.args.view.now in
    let s = c.in_ok-others.others in
    let u = c.int.result in
    let w = c.int-2.result in
    let s_fits : FitsSigned w128 s = search rules in
    let u_fits : FitsSigned w64 u = search rules in
    let w_fits : FitsSigned w64 w = search rules in
    let as' = ints_are c.elements-coefficients.result K xs 0 c.elements-coefficients.ensures.slots c.elements-coefficients.ensures.under in
    let bs = ints_are c.elements.result K xs 1 c.elements.ensures.slots c.elements.ensures.under in
    let sum : s ≡ total (products (ints_at K xs 0) (ints_at K xs 1)) = c.in_ok-others.ensures.exact ∙ (λ j. total (products (as' j) (bs j))) in
    let coefficient : slice_get (ints_at K xs 0) c.args.index ≡ Some u = ap (λ l. slice_get l c.args.index) (sym as') ∙ c.int.ensures.read in
    λ fits. unit_row K xs c.args.index s u w c.made_up.result coefficient c.requires.open sum c.int-2.ensures.read (simp to_z-of_z at c.made_up.ensures)
