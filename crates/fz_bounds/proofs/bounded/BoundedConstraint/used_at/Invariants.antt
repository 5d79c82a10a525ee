use Rattle.std.proofs.Common.{drop, ℤ}
use Rattle.std.specs.List.{zip}
use Rattle.fz_model.specs.Meaning.{Partial}
use Rattle.fz_model.specs.Relations.{runs_at, used_at}
use Rattle.fz_model.specs.of_builtins.of_kernel.Given.{ints_at}
use Rattle.fz_bounds.specs.Decided.{LiesIn}
use Rattle.fz_bounds.specs.Within.{NumbersLie, given}
use Rattle.fz_bounds.proofs.Added.{IsSoFar}
use Rattle.fz_bounds.proofs.Chosen.{chosen}
use Rattle.fz_bounds.proofs.bounded.BoundedConstraint.used_at.Given as goal

abbrev pub invariant-loop-task : goal.invariant-loop-task
invariant-loop-task l = (K : Partial) → NumbersLie l.self 0 K → NumbersLie l.self 1 K
    → NumbersLie l.self 2 K → (t : ℤ) → LiesIn l.time t
    → IsSoFar (used_at t (zip (zip (ints_at K (given l.self) 0) (ints_at K (given l.self) 1)) (ints_at K (given l.self) 2)))
    (chosen (runs_at t) (drop l.task (zip (zip (ints_at K (given l.self) 0) (ints_at K (given l.self) 1)) (ints_at K (given l.self) 2)))) l.used
