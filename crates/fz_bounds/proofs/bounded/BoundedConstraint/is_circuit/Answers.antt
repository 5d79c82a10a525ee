use Rattle.std.proofs.Common.{sym, ap, ◌∙◌}
use Rattle.fz_model.specs.Relations.{are_places, as_places}
use Rattle.fz_model.specs.of_builtins.of_kernel.Given.{int_at, ints_at}
use Rattle.fz_model.proofs.of_builtins.of_globals.Led.{different_places, placed_counted}
use Rattle.fz_bounds.specs.Within.{given}
use Rattle.fz_bounds.proofs.Circuits.{entered_twice, led_outside}
use Rattle.fz_bounds.proofs.bounded.BoundedConstraint.is_circuit.Goals as goal

pub returns-then-leaves_places : goal.returns-then-leaves_places
returns-then-leaves_places c = λ K f g.
    let o = int_at K (given c.args.self.now) 0 in
    let ns = ints_at K (given c.args.self.now) 1 in
    led_outside (as_places o ns) (ap (λ n. are_places n (as_places o ns)) (placed_counted o ns) ∙ c.leaves_places.ensures c.if-leaves_places.true K f g)

pub returns-then-repeated : goal.returns-then-repeated
returns-then-repeated c = λ K f g.
    let o = int_at K (given c.args.self.now) 0 in
    let ns = ints_at K (given c.args.self.now) 1 in
    entered_twice (as_places o ns) (sym (different_places o ns) ∙ c.in_ok-repeated.ensures c.if-repeated.true K g)

pub returns-then-closed : goal.returns-then-closed
returns-then-closed c = λ K f g. c.in_ok-closed.ensures c.if-closed.true K f g
