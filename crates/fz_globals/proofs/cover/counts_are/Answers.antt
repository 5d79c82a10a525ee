use Rattle.std.proofs.Common.{◌≡◌, ap, ◌∙◌}
use Rattle.fz_kernel.specs.of_meaning.Relations.{counts_are}
use Rattle.fz_kernel.specs.Views.{ints}
use Rattle.fz_globals.proofs.Each.{counts_are-permutation}
use Rattle.fz_globals.proofs.cover.counts_are.Goals as goal

pub returns : goal.returns
returns c =
    let ys = c.in_ok-numbers.numbers.items in
    let vs = ints c.args.cover.now in
    let ns = ints c.args.counts.now in
    let told : c.come_as_often.result ≡ counts_are ys vs ns = c.come_as_often.ensures ∙ ap (λ l. counts_are l vs ns) c.deref.ensures.value in
    record { exact = told ∙ counts_are-permutation (ints c.args.elements.now) ys c.in_ok-numbers.ensures.same vs ns }
