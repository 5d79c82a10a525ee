use Rattle.std.proofs.Common.{drop, ℤ}
use Rattle.fz_model.specs.Meaning.{Partial}
use Rattle.fz_model.specs.Relations.{count_of}
use Rattle.fz_model.specs.of_builtins.of_kernel.Given.{ints_at}
use Rattle.fz_bounds.specs.Decided.{LiesIn}
use Rattle.fz_bounds.specs.Within.{NumbersLie, given}
use Rattle.fz_bounds.proofs.Added.{IsSoFar}
use Rattle.fz_bounds.proofs.bounded.BoundedConstraint.count_of.Given as goal

abbrev pub invariant-loop-place : goal.invariant-loop-place
invariant-loop-place l = (K : Partial) → NumbersLie l.self l.array K → (v : ℤ) → LiesIn l.wanted v
    → IsSoFar (count_of (ints_at K (given l.self) l.array) v)
    (count_of (drop l.place (ints_at K (given l.self) l.array)) v) l.sum
