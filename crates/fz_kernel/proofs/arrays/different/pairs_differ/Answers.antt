use Rattle.std.proofs.Common.{pos, not, get_or, ◌≡◌, length, ◌∙◌, arith, rules}
use Rattle.std.proofs.lemmas.List.{drop_more}
use Rattle.fz_store.specs.of_meaning.Relations.{◌=ℤ◌}
use Rattle.fz_kernel.specs.Views.{ints}
use Rattle.fz_kernel.proofs.Between.{all_pairs_of, read_at}
use Rattle.fz_kernel.proofs.Different.{pairs_are}
use Rattle.fz_kernel.proofs.Read.{ints_counted}
use Rattle.fz_kernel.proofs.arrays.different.pairs_differ.Goals as goal

pub returns : goal.returns
returns c =
    let xs = ints c.args.elements.now in
    let counted : c.len.result ≡ length xs = ints_counted c.args.elements.now c.len.result c.len.ensures.counted in
    c.all_pairs.ensures.exact (λ j k. not (get_or xs j (pos 0) =ℤ get_or xs k (pos 0))) (λ j k b less below r. search (rules, read_at))
    ∙ all_pairs_of xs (λ k. get_or xs k (pos 0)) (λ k h. drop_more xs k (pos 0) h) (λ x y. not (x =ℤ y)) 0 c.len.result (omega arith) ∙ pairs_are xs
