use Rattle.std.proofs.Common.{◌≡◌, pos, get_or, length, ◌∙◌, arith, rules}
use Rattle.fz_kernel.specs.of_meaning.Relations.{◌=ℤ◌}
use Rattle.fz_kernel.specs.Views.{ints}
use Rattle.fz_kernel.proofs.Between.{both_of, read_at, same_both}
use Rattle.fz_kernel.proofs.Read.{ints_counted}
use Rattle.fz_globals.proofs.order.are_elements.Goals as goal

pub returns : goal.returns
returns c =
    let xs = c.args.numbers.now in
    let ys = ints c.args.elements.now in
    let counted : c.len.result ≡ length ys = ints_counted c.args.elements.now c.len.result c.len.ensures.counted in
    let alike : length xs ≡ length ys = omega arith in
    c.all_between.ensures.exact (λ k. get_or xs k (pos 0) =ℤ get_or ys k (pos 0)) (λ k b from below r. search (rules, read_at))
    ∙ both_of ◌=ℤ◌ xs ys (pos 0) (pos 0) _ (omega arith) ∙ same_both ◌=ℤ◌ xs ys alike
