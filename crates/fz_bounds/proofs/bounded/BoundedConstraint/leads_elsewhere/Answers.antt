use Rattle.std.proofs.Common.{◌≡◌, ◌+◌, ◌<◌, false, length, pos, sym, ap, ◌∙◌, arith, rules}
use Rattle.fz_model.specs.Relations.{◌=ℤ◌, as_places, lies_between}
use Rattle.fz_model.specs.of_builtins.of_kernel.Given.{int_at, ints_at, slots_at}
use Rattle.fz_model.proofs.of_builtins.of_globals.Led.{as_place, placed_at, placed_counted}
use Rattle.fz_bounds.specs.Within.{given}
use Rattle.fz_bounds.proofs.Failed.{never_so}
use Rattle.fz_bounds.proofs.LeadingBack.{no_place, not_back}
use Rattle.fz_bounds.proofs.Lists.{is_there}
use Rattle.fz_bounds.proofs.bounded.BoundedConstraint.leads_elsewhere.Goals as goal

pub returns-then-names_none : goal.returns-then-names_none
returns-then-names_none c = λ _ K f g h k.
    let xs = given c.args.self.now in
    let o = int_at K xs c.args.first in
    let ns = ints_at K xs c.args.array in
    let ms = ints_at K xs c.args.other in
    let p = c.loop-place.place in
    let within : p < length (slots_at xs c.args.array) = omega arith in
    let (x, at_x) = is_there K xs c.args.array p within in
    let at = placed_at o ns p x at_x in
    no_place (as_places o ns) (as_places (int_at K xs c.args.other_first) ms) p (as_place o x) at
    (ap (λ n. lies_between (pos 1) (pos n) (as_place o x)) (placed_counted (int_at K xs c.args.other_first) ms) ∙ c.names_none.ensures (search rules) K g f (as_place o x) at)

pub returns-then-is_never : goal.returns-then-is_never
returns-then-is_never c = λ _ K f g h k.
    let xs = given c.args.self.now in
    let o = int_at K xs c.args.other_first in
    let ms = ints_at K xs c.args.other in
    let p = c.loop-place.place in
    let q = c.in-Some.there in
    let within : q < length (slots_at xs c.args.other) = omega (arith, c.in-Some.ensures.inside) in
    let (y, at_y) = is_there K xs c.args.other q within in
    let at = placed_at o ms q y at_y in
    let fails : (as_place o y =ℤ pos (p + 1)) ≡ false = never_so c.equal.result (as_place o y =ℤ pos (p + 1)) (search rules) (c.equal.ensures (as_place o y) (pos (p + 1)) (c.successor-back.ensures K k h (as_place o y) at) c.index.ensures) in
    not_back (as_places (int_at K xs c.args.first) (ints_at K xs c.args.array)) (as_places o ms) p q (as_place o y) (c.in-Some.ensures.next K g f) at fails
