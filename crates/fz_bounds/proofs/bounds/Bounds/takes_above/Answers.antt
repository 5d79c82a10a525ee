use Rattle.std.proofs.Common.{◌≡◌, ◌+ℤ◌, pos, of_z, to_z, FitsSigned, IsTrue, w64, arith, rules}
use Rattle.std.specs.Int.{int_max}
use Rattle.std.proofs.lemmas.Int.{clamps, ints, to_z-of_z}
use Rattle.fz_bounds.specs.Ends.{Excludes}
use Rattle.fz_bounds.proofs.Numbers.{if_ok, same_excluded}
use Rattle.fz_bounds.proofs.bounds.Bounds.takes_above.Goals as goal

pub returns-clause-never : goal.returns-clause-never
returns-clause-never c =
    let q = c.args.asked.now in
    let most : FitsSigned w64 q.ends.high = search rules in
    let least : to_z w64 (of_z w64 c.max.result) ≡ int_max q.ends.low (c.args.high +ℤ pos 1) = omega (arith, ints, clamps) in
    if_ok c.cannot_lie.result _ (λ b. IsTrue b → Excludes q.model.now q.point c.args.self.now q.variable q.ends.kind (int_max q.ends.low (c.args.high +ℤ pos 1)) q.ends.high)
    (λ b found holds. same_excluded q.model.now q.point c.args.self.now q.variable q.ends.kind (int_max q.ends.low (c.args.high +ℤ pos 1)) q.ends.high (found holds) least (to_z-of_z w64 q.ends.high most))
    c.cannot_lie.ensures.never
