use Rattle.std.proofs.Common.{◌≡◌, Some, w64, sym, ◌∙◌, FitsSigned, rules}
use Rattle.std.specs.Int.{w128}
use Rattle.std.proofs.lemmas.Int.{to_z-of_z}
use Rattle.fz_store.specs.of_meaning.Relations.{element_at}
use Rattle.fz_kernel.specs.Views.{ints}
use Rattle.fz_kernel.proofs.Read.{ints_counted}
use Rattle.fz_kernel.proofs.Passed.{element_found, none_found}
use Rattle.fz_kernel.proofs.arrays.element.int_element_at.Goals as goal

pub returns-in-Some : goal.returns-in-Some
returns-in-Some c =
    let fits : FitsSigned w64 c.int.result = search rules in
    let xs = ints c.args.elements.now in
    let found : element_at xs c.args.index ≡ Some c.int.result =
    element_found xs c.args.index c.in-Some.place _ (sym (to_z-of_z w128 c.args.index c.ranges.index) ∙ c.in-Some.ensures.place) c.int.ensures.read in
    record { exact = simp to_z-of_z (sym found) }

pub returns-in-None : goal.returns-in-None
returns-in-None c =
    let xs = ints c.args.elements.now in
    record {
      exact = sym (none_found xs c.args.index c.len.result (ints_counted c.args.elements.now c.len.result c.len.ensures.counted)
          (λ k is. c.in-None.ensures.none k (to_z-of_z w128 c.args.index c.ranges.index ∙ is)));
    }
