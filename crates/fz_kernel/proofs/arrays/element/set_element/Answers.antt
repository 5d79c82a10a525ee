use Rattle.std.proofs.Common.{◌≡◌, ◌+◌, Some, pos, w64, FitsSigned, rules, sym, ◌∙◌}
use Rattle.std.specs.Int.{w128}
use Rattle.std.proofs.lemmas.Int.{to_z-of_z}
use Rattle.fz_store.specs.of_meaning.Relations.{element_at}
use Rattle.fz_kernel.specs.Views.{sets}
use Rattle.fz_kernel.proofs.Read.{sets_counted}
use Rattle.fz_kernel.proofs.Passed.{element_found, none_found}
use Rattle.fz_kernel.proofs.arrays.element.set_element.Goals as goal

pub returns-in-Some : goal.returns-in-Some
returns-in-Some c =
    let xs = sets c.args.elements.now in
    let fits : FitsSigned w64 c.args.index = c.ranges.index in
    let wide : FitsSigned w128 c.from.result = search rules in
    let same : c.from.result ≡ c.args.index = simp to_z-of_z at c.from.ensures in
    let place : c.args.index ≡ pos (c.in-Some.place + 1) = sym same ∙ sym (to_z-of_z w128 c.from.result wide) ∙ c.in-Some.ensures.place in
    let found : element_at xs c.args.index ≡ Some c.set.result.now =
    element_found xs c.args.index c.in-Some.place _ place c.set.ensures.read in
    record { exact = sym found }

pub returns-in-None : goal.returns-in-None
returns-in-None c =
    let xs = sets c.args.elements.now in
    let fits : FitsSigned w64 c.args.index = c.ranges.index in
    let wide : FitsSigned w128 c.from.result = search rules in
    let same : c.from.result ≡ c.args.index = simp to_z-of_z at c.from.ensures in
    record {
      exact = sym (none_found xs c.args.index c.len.result (sets_counted c.args.elements.now c.len.result c.len.ensures.counted)
          (λ k is. c.in-None.ensures.none k (to_z-of_z w128 c.from.result wide ∙ same ∙ is)));
    }
