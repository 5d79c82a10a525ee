use Rattle.std.proofs.Common.{◌≡◌, ap, ◌∙◌}
use Rattle.fz_kernel.specs.of_meaning.Relations.{counts_lie}
use Rattle.fz_kernel.specs.Views.{ints}
use Rattle.fz_globals.proofs.Each.{counts_lie-permutation}
use Rattle.fz_globals.proofs.cover.counts_lie.Goals as goal

pub returns : goal.returns
returns c =
    let ys = c.in_ok-numbers.numbers.items in
    let vs = ints c.args.cover.now in
    let least = ints c.args.least.now in
    let most = ints c.args.most.now in
    let told : c.come_within.result ≡ counts_lie ys vs least most = c.come_within.ensures ∙ ap (λ l. counts_lie l vs least most) c.deref.ensures.value in
    record { exact = told ∙ counts_lie-permutation (ints c.args.elements.now) ys c.in_ok-numbers.ensures.same vs least most }
