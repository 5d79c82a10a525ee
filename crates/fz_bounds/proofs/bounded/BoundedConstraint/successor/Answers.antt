use Rattle.std.proofs.Common.{◌≡◌, ◌-ℤ◌, pos, subst, sym, Some, ap, ◌∙◌}
use Rattle.std.proofs.lemmas.Option.{same_Some}
use Rattle.fz_model.specs.of_builtins.of_kernel.Given.{int_at, ints_at}
use Rattle.fz_model.proofs.of_builtins.of_globals.Led.{as_place, placed_at}
use Rattle.fz_bounds.specs.Decided.{LiesIn}
use Rattle.fz_bounds.specs.Within.{given}
use Rattle.fz_bounds.proofs.Lists.{is_there}
use Rattle.fz_bounds.proofs.bounded.BoundedConstraint.successor.Goals as goal

pub returns : goal.returns
returns c = λ K f g n at.
    let xs = given c.args.self.now in
    let o = int_at K xs c.args.first in
    let p = c.args.place in
    let (x, at_x) = is_there K xs c.args.array p c.requires.in_range in
    let is : as_place o x ≡ n = same_Some (as_place o x) n (sym (placed_at o (ints_at K xs c.args.array) p x at_x) ∙ at) in
    subst (LiesIn c.plus.result) is (c.plus.ensures (x -ℤ o) (pos 1) (c.minus.ensures x o (c.number_at.ensures K g x at_x) (c.number.ensures K f)) c.of.ensures)
