use Rattle.std.proofs.Common.{◌≡◌, ◌∙◌}
use Rattle.fz_kernel.specs.of_meaning.Relations.{is_closed}
use Rattle.fz_kernel.specs.Views.{ints}
use Rattle.fz_globals.proofs.Each.{closed-permutation}
use Rattle.fz_globals.proofs.cover.is_closed.Goals as goal

pub returns : goal.returns
returns c =
    let xs = ints c.args.elements.now in
    let ys = c.in_ok-values.values.items in
    let told : c.all_stand_in.result ≡ is_closed xs ys = rw c.deref.ensures.value at c.all_stand_in.ensures in
    record { exact = told ∙ closed-permutation (ints c.args.cover.now) ys c.in_ok-values.ensures.same xs }
