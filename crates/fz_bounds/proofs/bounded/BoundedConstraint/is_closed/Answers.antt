use Rattle.std.proofs.Common.{◌≡◌, ◌<◌, false, length, arith, rules}
use Rattle.fz_model.specs.Relations.{is_among}
use Rattle.fz_model.specs.of_builtins.of_kernel.Given.{ints_at, slots_at}
use Rattle.fz_bounds.specs.Within.{given}
use Rattle.fz_bounds.proofs.Failed.{never_so}
use Rattle.fz_model.proofs.of_builtins.Failing.{one_fails}
use Rattle.fz_bounds.proofs.Lists.{is_there}
use Rattle.fz_bounds.proofs.bounded.BoundedConstraint.is_closed.Goals as goal

pub returns-then-is_never : goal.returns-then-is_never
returns-then-is_never c = λ K f g.
    let xs = given c.args.self.now in
    let cover = ints_at K xs 1 in
    let i = c.loop-place.place in
    let within : i < length (slots_at xs 0) = omega arith in
    let (x, at) = is_there K xs 0 i within in
    let fails : is_among x cover ≡ false = never_so c.is_among.result (is_among x cover) (search rules) (c.is_among.ensures K g x (c.number_at.ensures K f x at)) in
    one_fails (λ x. is_among x cover) (ints_at K xs 0) i x at fails
