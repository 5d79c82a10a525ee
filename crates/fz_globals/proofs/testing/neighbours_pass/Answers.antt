use Rattle.std.proofs.Common.{◌≡◌, ◌-◌, pos, get_or, length, ◌∙◌, rules}
use Rattle.fz_kernel.specs.Views.{ints}
use Rattle.fz_kernel.proofs.Between.{neighbours_of, read_at}
use Rattle.fz_kernel.proofs.Read.{ints_counted}
use Rattle.fz_globals.proofs.testing.neighbours_pass.Goals as goal

pub returns : goal.returns
returns g c p is =
    let xs = ints c.args.elements.now in
    let counted : c.len.result ≡ length xs = ints_counted c.args.elements.now c.len.result c.len.ensures.counted in
    c.all_between.ensures.exact (λ k. p (get_or xs (k - 1) (pos 0)) (get_or xs k (pos 0))) (λ k b from below r. search (rules, read_at, is))
    ∙ neighbours_of xs (pos 0) p c.len.result counted
