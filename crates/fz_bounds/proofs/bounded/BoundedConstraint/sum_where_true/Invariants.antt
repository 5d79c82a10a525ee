use Rattle.std.proofs.Common.{drop}
use Rattle.fz_model.specs.Meaning.{Partial}
use Rattle.fz_model.specs.Relations.{total, where_true}
use Rattle.fz_model.specs.of_builtins.of_kernel.Given.{bools_at, ints_at}
use Rattle.fz_bounds.specs.Within.{NumbersLie, TruthsLie, given}
use Rattle.fz_bounds.proofs.Added.{IsSoFar}
use Rattle.fz_bounds.proofs.bounded.BoundedConstraint.sum_where_true.Given as goal

abbrev pub invariant-loop-place : goal.invariant-loop-place
invariant-loop-place l = (K : Partial) → NumbersLie l.self 0 K → TruthsLie l.self 1 K
    → IsSoFar (total (where_true (ints_at K (given l.self) 0) (bools_at K (given l.self) 1)))
    (total (where_true (drop l.place (ints_at K (given l.self) 0)) (drop l.place (bools_at K (given l.self) 1)))) l.sum
