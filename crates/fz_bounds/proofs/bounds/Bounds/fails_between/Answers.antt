use Rattle.std.proofs.Common.{refl, FitsSigned, IsTrue, w64, rules}
use Rattle.std.proofs.lemmas.Int.{to_z-of_z}
use Rattle.fz_bounds.specs.Bounds.{NumberNeverHolds}
use Rattle.fz_bounds.specs.Ends.{Excludes}
use Rattle.fz_bounds.proofs.Numbers.{excluded, if_ok, restored}
use Rattle.fz_bounds.proofs.bounds.Bounds.fails_between.Goals as goal

pub returns-clause-same : goal.returns-clause-same
returns-clause-same c =
    let q = c.args.asked.now in
    let low : FitsSigned w64 q.ends.low = search rules in
    let high : FitsSigned w64 q.ends.high = search rules in
    restored c.args.self.now q.variable q.ends c.requires.ends c.narrow.new.self c.narrow-2.new.self _ _ q.ends.kind _ _ c.narrow.ensures.exact c.narrow-2.ensures.exact refl (to_z-of_z w64 q.ends.low low) (to_z-of_z w64 q.ends.high high)

pub returns-clause-never : goal.returns-clause-never
returns-clause-never c =
    let q = c.args.asked.now in
    let low : FitsSigned w64 c.args.from = search rules in
    let high : FitsSigned w64 c.args.to = search rules in
    if_ok c.cannot_hold-fails.result (λ b. IsTrue b → NumberNeverHolds q.model.now q.point c.narrow.new.self) (λ b. IsTrue b → Excludes q.model.now q.point c.args.self.now q.variable q.ends.kind c.args.from c.args.to)
    (λ b never holds. excluded q.model.now q.point c.args.self.now c.narrow.new.self q.variable q.ends.kind c.args.from c.args.to _ _ c.narrow.ensures.exact (to_z-of_z w64 c.args.from low) (to_z-of_z w64 c.args.to high) (never holds)) c.cannot_hold-fails.ensures.never
