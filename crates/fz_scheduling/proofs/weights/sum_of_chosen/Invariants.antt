use Rattle.std.specs.List.{zip}
use Rattle.std.specs.FinSet.{contains}
use Rattle.fz_kernel.specs.Views.{ints}
use Rattle.fz_scheduling.proofs.Chosen.{IsChosen}
use Rattle.fz_scheduling.proofs.weights.sum_of_chosen.Given as goal

abbrev pub invariant-loop-place : goal.invariant-loop-place
invariant-loop-place l = IsChosen (contains l.chosen) (zip (ints l.things) (ints l.weights)) l.place l.sum
