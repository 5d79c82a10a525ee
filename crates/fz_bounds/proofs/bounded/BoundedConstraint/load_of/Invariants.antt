use Rattle.std.proofs.Common.{drop, ℤ}
use Rattle.std.specs.List.{zip}
use Rattle.fz_model.specs.Meaning.{Partial}
use Rattle.fz_model.specs.Relations.{◌=ℤ◌, load_of}
use Rattle.fz_model.specs.of_builtins.of_kernel.Given.{ints_at}
use Rattle.fz_bounds.specs.Decided.{LiesIn}
use Rattle.fz_bounds.specs.Within.{NumbersLie, given}
use Rattle.fz_bounds.proofs.Added.{IsSoFar}
use Rattle.fz_bounds.proofs.Chosen.{chosen}
use Rattle.fz_bounds.proofs.bounded.BoundedConstraint.load_of.Given as goal

abbrev pub invariant-loop-item : goal.invariant-loop-item
invariant-loop-item l = (K : Partial) → NumbersLie l.self 1 K → NumbersLie l.self 2 K → (v : ℤ)
    → LiesIn l.bin v
    → IsSoFar (load_of (ints_at K (given l.self) 1) (ints_at K (given l.self) 2) v)
    (chosen (λ b. b =ℤ v) (drop l.item (zip (ints_at K (given l.self) 1) (ints_at K (given l.self) 2)))) l.load
