use Rattle.fz_kernel.specs.Views.{ints}
use Rattle.fz_kernel.proofs.Added.{IsAdded}
use Rattle.fz_kernel.proofs.arrays.sums.sum_of_products.Given as goal

abbrev pub invariant-loop-place : goal.invariant-loop-place
invariant-loop-place l = IsAdded (ints l.a) (ints l.b) l.place l.sum
