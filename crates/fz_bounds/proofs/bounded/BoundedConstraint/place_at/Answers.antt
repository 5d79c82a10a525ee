use Rattle.std.proofs.Common.{◌≡◌, ◌+◌, ◌+ℤ◌, ◌-ℤ◌, FitsSigned, Some, ap, pos, sym, w64, ◌∙◌, rules}
use Rattle.std.proofs.lemmas.Int.{to_z-of_z}
use Rattle.fz_model.specs.of_builtins.of_kernel.Given.{int_at, ints_at}
use Rattle.fz_model.proofs.of_builtins.of_globals.Led.{as_place, placed_at}
use Rattle.fz_bounds.specs.Within.{given}
use Rattle.fz_bounds.proofs.Lists.{is_there}
use Rattle.fz_bounds.proofs.bounded.BoundedConstraint.place_at.Goals as goal

pub returns-clause-next : goal.returns-clause-next
returns-clause-next c = λ K f g.
    let xs = given c.args.self.now in
    let p = c.args.place in
    let least = c.in_ok-least.least in
    let number = c.in_ok-number.number in
    let fits_l : FitsSigned w64 least = search rules in
    let fits_n : FitsSigned w64 number = search rules in
    let (n, at) = is_there K xs c.args.array p c.requires.in_range in
    let first : int_at K xs c.args.first ≡ least = c.in_ok-least.ensures K f in
    let is : n ≡ number = c.in_ok-number.ensures K g n at in
    let named : as_place least number ≡ pos (c.in_ok-named.named + 1) = simp to_z-of_z at c.in_ok-named.ensures.place in
    placed_at (int_at K xs c.args.first) (ints_at K xs c.args.array) p n at ∙ ap Some ((λ i. as_place (first i) (is i)) ∙ named)
