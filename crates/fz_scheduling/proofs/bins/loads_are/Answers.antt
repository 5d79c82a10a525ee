use Rattle.std.proofs.Common.{pos, ◌+ℤ◌, w64, to_z, of_z, refl, ap, ◌∙◌, arith, rules}
use Rattle.std.proofs.lemmas.Int.{to_z-of_z}
use Rattle.fz_kernel.specs.of_meaning.Relations.{◌=ℤ◌, load_of, loads_are}
use Rattle.fz_kernel.specs.Views.{ints}
use Rattle.fz_kernel.proofs.Between.{each_of}
use Rattle.fz_scheduling.specs.Places.{number_at}
use Rattle.fz_scheduling.proofs.bins.loads_are.Goals as goal

pub returns : goal.returns
returns c =
    let first = to_z w64 (of_z w64 c.args.first) in
    let bins = ints c.args.bins.now in
    let weights = ints c.args.weights.now in
    let loads = ints c.args.loads.now in
    c.all_between.ensures.exact (λ k. number_at loads k =ℤ load_of bins weights (first +ℤ pos k)) (λ k b from below r. search rules)
    ∙ each_of loads (pos 0) (λ i n. n =ℤ load_of bins weights i) (λ i ns. loads_are i bins weights ns) (λ _. refl) (λ i n ns. refl) first _ (omega arith)
    ∙ ap (λ o. loads_are o bins weights loads) (to_z-of_z w64 c.args.first c.ranges.first)
