use Rattle.std.proofs.Common.{drop}
use Rattle.fz_model.specs.Meaning.{Partial}
use Rattle.fz_model.specs.Relations.{products, total}
use Rattle.fz_model.specs.of_builtins.of_kernel.Given.{ints_at}
use Rattle.fz_bounds.specs.Within.{NumbersLie, given}
use Rattle.fz_bounds.proofs.Added.{IsSoFar}
use Rattle.fz_bounds.proofs.bounded.BoundedConstraint.sum_of_products.Given as goal

abbrev pub invariant-loop-place : goal.invariant-loop-place
invariant-loop-place l = (K : Partial) → NumbersLie l.self l.factors K → NumbersLie l.self l.array K
    → IsSoFar (total (products (ints_at K (given l.self) l.factors) (ints_at K (given l.self) l.array)))
    (total (products (drop l.place (ints_at K (given l.self) l.factors)) (drop l.place (ints_at K (given l.self) l.array)))) l.sum
