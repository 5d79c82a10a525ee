use Rattle.std.proofs.Common.{◌≡◌, true, drop}
use Rattle.fz_model.specs.Meaning.{Partial}
use Rattle.fz_bounds.specs.Within.{ElementsLie, given, numbers_at}
use Rattle.fz_bounds.proofs.Comparing.{comes}
use Rattle.fz_bounds.proofs.bounded.BoundedConstraint.surely_before.Given as goal

abbrev pub invariant-loop-place : goal.invariant-loop-place
invariant-loop-place l = (K : Partial) → ElementsLie l.truths l.self l.one K
    → ElementsLie l.truths l.self l.other K
    → comes (drop l.place (numbers_at l.truths K (given l.self) l.one)) (drop l.place (numbers_at l.truths K (given l.self) l.other)) ≡ true
    → comes (numbers_at l.truths K (given l.self) l.one) (numbers_at l.truths K (given l.self) l.other) ≡ true
