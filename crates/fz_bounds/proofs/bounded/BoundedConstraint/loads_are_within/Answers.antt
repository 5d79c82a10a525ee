use Rattle.std.proofs.Common.{◌≡◌, ◌<◌, false, int_le, length, arith, rules}
use Rattle.fz_model.specs.Relations.{load_of}
use Rattle.fz_model.specs.of_builtins.of_kernel.Given.{int_at, ints_at, slots_at}
use Rattle.fz_bounds.specs.Within.{given}
use Rattle.fz_bounds.proofs.Failed.{never_so}
use Rattle.fz_model.proofs.of_builtins.Failing.{one_fails}
use Rattle.fz_bounds.proofs.Lists.{is_there}
use Rattle.fz_bounds.proofs.bounded.BoundedConstraint.loads_are_within.Goals as goal

pub returns-then-is_never : goal.returns-then-is_never
returns-then-is_never c = λ K f g h.
    let xs = given c.args.self.now in
    let bins = ints_at K xs 1 in
    let weights = ints_at K xs 2 in
    let most = int_at K xs 0 in
    let i = c.loop-item.item in
    let within : i < length (slots_at xs 1) = omega arith in
    let (b, at) = is_there K xs 1 i within in
    let fails : int_le (load_of bins weights b) most ≡ false = never_so c.at_most.result (int_le (load_of bins weights b) most) (search rules) (c.at_most.ensures (load_of bins weights b) most (c.load_of.ensures K g h b (c.number_at-bin.ensures K g b at)) (c.number.ensures K f)) in
    one_fails (λ v. int_le (load_of bins weights v) most) bins i b at fails
