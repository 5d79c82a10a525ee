use Rattle.std.specs.List.{zip}
use Rattle.fz_kernel.specs.of_meaning.Relations.{◌=ℤ◌}
use Rattle.fz_kernel.specs.Views.{ints}
use Rattle.fz_scheduling.proofs.Chosen.{IsChosen}
use Rattle.fz_scheduling.proofs.bins.load_of.Given as goal

abbrev pub invariant-loop-place : goal.invariant-loop-place
invariant-loop-place l = IsChosen (λ b. b =ℤ l.bin) (zip (ints l.bins) (ints l.weights)) l.place l.load
