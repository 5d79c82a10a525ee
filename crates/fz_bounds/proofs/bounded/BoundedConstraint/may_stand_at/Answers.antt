use Rattle.std.proofs.Common.{◌≡◌, ◌<◌, ◌+◌, ◌≤◌, false, drop, length, refl, sym, ◌∙◌, arith, rules}
use Rattle.std.proofs.lemmas.List.{length-drop}
use Rattle.fz_model.specs.Relations.{◌=ℤ◌}
use Rattle.fz_model.specs.of_builtins.of_kernel.Given.{ints_at, slots_at}
use Rattle.fz_model.proofs.of_builtins.of_globals.InTable.{same_front}
use Rattle.fz_model.proofs.of_builtins.Failing.{both_fail}
use Rattle.fz_bounds.specs.Within.{given}
use Rattle.fz_bounds.proofs.Failed.{never_so}
use Rattle.fz_bounds.proofs.Lists.{dropped_at, is_there, numbers_counted}
use Rattle.fz_bounds.proofs.bounded.BoundedConstraint.may_stand_at.Goals as goal

pub returns-then-is_never : goal.returns-then-is_never
returns-then-is_never c = λ _ K f g.
    let xs = given c.args.self.now in
    let ns = ints_at K xs 0 in
    let ts = ints_at K xs 1 in
    let s = c.args.start in
    let p = c.loop-place.place in
    let room : s + length (slots_at xs 0) ≤ c.args.size = c.requires.room in
    let counted : c.args.size ≡ length (slots_at xs 1) = c.requires.counted in
    let first : p < length (slots_at xs 0) = omega arith in
    let second : s + p < length (slots_at xs 1) = omega arith in
    let (n, at_n) = is_there K xs 0 p first in
    let (m, at_m) = is_there K xs 1 (s + p) second in
    let width = numbers_counted K xs 0 (length (slots_at xs 0)) refl in
    let long = numbers_counted K xs 1 (length (slots_at xs 1)) refl in
    let inside : length ns ≤ length (drop s ts) = omega (arith, length-drop s ts) in
    let fails : (n =ℤ m) ≡ false = never_so c.equal.result (n =ℤ m) (search rules) (c.equal.ensures n m (c.number_at.ensures K f n at_n) (c.number_at-cell.ensures K g m at_m)) in
    sym (same_front ◌=ℤ◌ ns (drop s ts) inside) ∙ both_fail ◌=ℤ◌ ns (drop s ts) p n m at_n (dropped_at ts s p m at_m) fails
