use Rattle.fz_kernel.specs.Views.{ints, bools}
use Rattle.fz_kernel.proofs.Added.{IsCounted}
use Rattle.fz_kernel.proofs.arrays.sums.sum_where_true.Given as goal

abbrev pub invariant-loop-place : goal.invariant-loop-place
invariant-loop-place l = IsCounted (ints l.a) (bools l.b) l.place l.sum
