use Rattle.std.proofs.Common.{◌≡◌, sym, ◌∙◌, length, arith}
use Rattle.std.proofs.lemmas.Int.{ints as numerals}
use Rattle.fz_kernel.specs.of_meaning.Relations.{values_of}
use Rattle.fz_kernel.specs.Views.{ints}
use Rattle.fz_globals.proofs.Valued.{values-permutation}
use Rattle.fz_globals.proofs.counts.number_of_values.Goals as goal

pub returns : goal.returns
returns c =
    let xs = ints c.args.elements.now in
    let ys = c.in_ok-numbers.numbers.items in
    let told : c.values_in_order.result ≡ length (values_of ys) = rw c.deref.ensures.value at c.values_in_order.ensures in
    let same : c.values_in_order.result ≡ length (values_of xs) = told ∙ sym (values-permutation xs ys c.in_ok-numbers.ensures.same) in
    record { exact = omega (arith, numerals) }
