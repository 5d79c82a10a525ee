use Rattle.std.proofs.Common.{◌≡◌, pos, get_or, length, ◌∙◌, arith, rules}
use Rattle.fz_kernel.specs.Views.{ints}
use Rattle.fz_kernel.proofs.Between.{both_of, read_at}
use Rattle.fz_kernel.proofs.Read.{ints_counted}
use Rattle.fz_globals.proofs.testing.both_pass.Goals as goal

pub returns : goal.returns
returns g c p is =
    let xs = ints c.args.a.now in
    let ys = ints c.args.b.now in
    let counted_x : c.len.result ≡ length xs = ints_counted c.args.a.now c.len.result c.len.ensures.counted in
    let counted_y : c.len-2.result ≡ length ys = ints_counted c.args.b.now c.len-2.result c.len-2.ensures.counted in
    c.all_between.ensures.exact (λ k. p (get_or xs k (pos 0)) (get_or ys k (pos 0))) (λ k b from below r. search (rules, read_at, is))
    ∙ both_of p xs ys (pos 0) (pos 0) _ (omega arith)
