use Rattle.std.proofs.Common.{◌≡◌, pos, get_or, length, ◌∙◌, rules}
use Rattle.fz_store.specs.of_meaning.Relations.{◌=ℤ◌}
use Rattle.fz_kernel.specs.Views.{ints}
use Rattle.fz_kernel.proofs.Between.{read_at, some_of}
use Rattle.fz_kernel.proofs.Read.{ints_counted}
use Rattle.fz_kernel.proofs.arrays.different.stands_from.Goals as goal

pub returns : goal.returns
returns c =
    let xs = ints c.args.elements.now in
    let n = c.args.number in
    let counted : c.len.result ≡ length xs = ints_counted c.args.elements.now c.len.result c.len.ensures.counted in
    c.any_between.ensures.exact (λ k. get_or xs k (pos 0) =ℤ n) (λ k b from below r. search (rules, read_at))
    ∙ some_of xs (pos 0) (λ x. x =ℤ n) c.args.start c.len.result counted
