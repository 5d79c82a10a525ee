use Rattle.std.proofs.Common.{rules, int_le, sym, ◌∙◌, FitsSigned, w64}
use Rattle.std.proofs.lemmas.Int.{to_z-of_z}
use Rattle.fz_globals.specs.of_meaning.Relations.{is_index_of_best}
use Rattle.fz_globals.specs.of_kernel.Views.{arguments_of, assigned, ints}
use Rattle.fz_builtins.proofs.ElementReadings.{ints_are}
use Rattle.fz_builtins.proofs.RowTests.{index_is}
use Rattle.fz_builtins.proofs.places.argument_of_maximum.Goals as goal

pub returns : goal.returns
returns c =
    let e = c.elements.result in
    let fits : FitsSigned w64 c.int.result = search rules in
    let same = ints_are e (assigned c.args.view.now) (arguments_of c.args.view.now) 0 c.elements.ensures.slots c.elements.ensures.under in
    λ i.
    (λ p. is_index_of_best (λ x m. int_le x m) (sym same p) (sym c.int.ensures.read p) i)
    ∙ index_is (is_index_of_best (λ x m. int_le x m) (ints e) c.int.result) c.index_of_maximum.result
    (simp to_z-of_z at c.index_of_maximum.ensures.exact) (simp to_z-of_z at c.index_of_maximum.ensures.none) i
