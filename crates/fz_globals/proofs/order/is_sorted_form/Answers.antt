use Rattle.std.proofs.Common.{◌≡◌, ◌∙◌}
use Rattle.fz_kernel.specs.of_meaning.Relations.{◌=ℤ◌, is_same_list}
use Rattle.fz_kernel.specs.Views.{ints}
use Rattle.fz_globals.proofs.Ascending.{form_is}
use Rattle.fz_globals.proofs.order.is_sorted_form.Goals as goal

pub returns : goal.returns
returns c =
    let zs = c.in_ok-numbers.numbers.items in
    let ys = ints c.args.ascending.now in
    let told : c.are_elements.result ≡ is_same_list ◌=ℤ◌ zs ys = rw c.deref.ensures.value at c.are_elements.ensures in
    record { exact = told ∙ form_is (ints c.args.elements.now) zs ys c.in_ok-numbers.ensures.same c.in_ok-numbers.ensures.in_order }
