use Rattle.std.proofs.Common.{sym, ap, ◌∙◌}
use Rattle.std.proofs.lemmas.Bool.{and_left, and_right}
use Rattle.fz_model.specs.Relations.{are_places, as_places}
use Rattle.fz_model.specs.of_builtins.of_kernel.Given.{int_at, ints_at}
use Rattle.fz_model.proofs.of_builtins.of_globals.Led.{different_places, placed_counted}
use Rattle.fz_bounds.specs.Within.{given}
use Rattle.fz_bounds.proofs.bounded.BoundedConstraint.is_subcircuit.Goals as goal

pub returns-then-leaves_places : goal.returns-then-leaves_places
returns-then-leaves_places c = λ K f g.
    let o = int_at K (given c.args.self.now) 0 in
    let ns = ints_at K (given c.args.self.now) 1 in
    and_left _ _ (and_left _ _ (and_left _ _ (ap (λ n. are_places n (as_places o ns)) (placed_counted o ns) ∙ c.leaves_places.ensures c.if-leaves_places.true K f g)))

pub returns-then-repeated : goal.returns-then-repeated
returns-then-repeated c = λ K f g.
    let o = int_at K (given c.args.self.now) 0 in
    let ns = ints_at K (given c.args.self.now) 1 in
    and_left _ _ (and_left _ _ (and_right _ _ (sym (different_places o ns) ∙ c.in_ok-repeated.ensures c.if-repeated.true K g)))
