use Rattle.std.proofs.Common.{◌≡◌, sym, ◌∙◌}
use Rattle.fz_model.specs.Relations.{all_different}
use Rattle.fz_model.specs.of_builtins.of_kernel.Given.{ints_at}
use Rattle.fz_bounds.specs.Within.{given}
use Rattle.fz_bounds.proofs.Picked.{is_not, picked_clash}
use Rattle.fz_bounds.proofs.bounded.BoundedConstraint.repeats.Goals as goal

pub returns : goal.returns
returns c = λ repeat K f.
    let numbers = c.in_ok-numbers.numbers.items in
    let told : c.all_different.result ≡ all_different numbers = rw c.deref_mut.ensures.value at c.all_different.ensures.exact in
    picked_clash numbers (ints_at K (given c.args.self.now) c.args.array) (c.in_ok-numbers.ensures K f) (sym told ∙ is_not c.all_different.result repeat)
