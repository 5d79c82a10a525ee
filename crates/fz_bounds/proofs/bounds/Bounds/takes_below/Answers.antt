use Rattle.std.proofs.Common.{◌≡◌, ◌-ℤ◌, pos, of_z, to_z, FitsSigned, IsTrue, w64, arith, rules}
use Rattle.std.specs.Int.{int_min}
use Rattle.std.proofs.lemmas.Int.{clamps, ints, to_z-of_z}
use Rattle.fz_bounds.specs.Ends.{Excludes}
use Rattle.fz_bounds.proofs.Numbers.{if_ok, same_excluded}
use Rattle.fz_bounds.proofs.bounds.Bounds.takes_below.Goals as goal

pub returns-clause-never : goal.returns-clause-never
returns-clause-never c =
    let q = c.args.asked.now in
    let least : FitsSigned w64 q.ends.low = search rules in
    let most : to_z w64 (of_z w64 c.min.result) ≡ int_min q.ends.high (c.args.low -ℤ pos 1) = omega (arith, ints, clamps) in
    if_ok c.cannot_lie.result _ (λ b. IsTrue b → Excludes q.model.now q.point c.args.self.now q.variable q.ends.kind q.ends.low (int_min q.ends.high (c.args.low -ℤ pos 1)))
    (λ b found holds. same_excluded q.model.now q.point c.args.self.now q.variable q.ends.kind q.ends.low (int_min q.ends.high (c.args.low -ℤ pos 1)) (found holds) (to_z-of_z w64 q.ends.low least) most)
    c.cannot_lie.ensures.never
