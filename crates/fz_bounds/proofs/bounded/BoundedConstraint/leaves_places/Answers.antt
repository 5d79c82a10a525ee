use Rattle.std.proofs.Common.{◌≡◌, ◌<◌, length, pos, arith, rules}
use Rattle.fz_model.specs.Relations.{as_places, lies_between}
use Rattle.fz_model.specs.of_builtins.of_kernel.Given.{int_at, ints_at, slots_at}
use Rattle.fz_model.proofs.of_builtins.Failing.{one_fails}
use Rattle.fz_model.proofs.of_builtins.of_globals.Led.{as_place, placed_at}
use Rattle.fz_bounds.specs.Within.{given}
use Rattle.fz_bounds.proofs.Lists.{is_there}
use Rattle.fz_bounds.proofs.bounded.BoundedConstraint.leaves_places.Goals as goal

pub returns-then-names_none : goal.returns-then-names_none
returns-then-names_none c = λ _ K f g.
    let xs = given c.args.self.now in
    let o = int_at K xs 0 in
    let ns = ints_at K xs 1 in
    let p = c.loop-place.place in
    let within : p < length (slots_at xs 1) = omega arith in
    let (x, at_x) = is_there K xs 1 p within in
    let at = placed_at o ns p x at_x in
    one_fails (lies_between (pos 1) (pos (length ns))) (as_places o ns) p (as_place o x) at (c.names_none.ensures (search rules) K f g (as_place o x) at)
