use Rattle.std.proofs.Common.{rules, int_le, map, sym, ◌∙◌, FitsSigned, w64}
use Rattle.std.proofs.lemmas.Int.{to_z-of_z}
use Rattle.fz_globals.specs.of_meaning.Relations.{as_number, is_index_of_best}
use Rattle.fz_globals.specs.of_kernel.Views.{arguments_of, assigned, bools}
use Rattle.fz_builtins.proofs.ElementReadings.{bools_are}
use Rattle.fz_builtins.proofs.RowTests.{index_is}
use Rattle.fz_builtins.proofs.places.argument_of_greatest_truth.Goals as goal

pub returns : goal.returns
returns c =
    let e = c.elements.result in
    let fits : FitsSigned w64 c.int.result = search rules in
    let same = bools_are e (assigned c.args.view.now) (arguments_of c.args.view.now) 0 c.elements.ensures.slots c.elements.ensures.under in
    λ i.
    (λ p. is_index_of_best (λ x m. int_le x m) (map as_number (sym same p)) (sym c.int.ensures.read p) i)
    ∙ index_is (is_index_of_best (λ x m. int_le x m) (map as_number (bools e)) c.int.result) c.index_of_greatest_truth.result
    (simp to_z-of_z at c.index_of_greatest_truth.ensures.exact) (simp to_z-of_z at c.index_of_greatest_truth.ensures.none) i
