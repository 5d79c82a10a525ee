use Rattle.std.proofs.Common.{FitsSigned, w64, int_cmp, ◌∙◌}
use Rattle.std.proofs.lemmas.Int.{to_z-of_z}
use Rattle.std.specs.List.Sorted.{IsBinarySearchResult}
use Rattle.fz_globals.proofs.Halving.{searched_is}
use Rattle.fz_globals.proofs.ordered.stands_in_order.Goals as goal

pub returns : goal.returns
returns c =
    let fits : FitsSigned w64 c.args.value = c.ranges.value in
    let found : IsBinarySearchResult (λ y. int_cmp y c.args.value) c.args.sorted.now c.binary_search.result = simp to_z-of_z at c.binary_search.ensures.position in
    c.is_ok.ensures.value ∙ searched_is c.args.sorted.now c.args.value c.binary_search.result c.requires c.binary_search.ensures.bound found
