use Rattle.std.proofs.Common.{drop, option_map}
use Rattle.fz_kernel.specs.Views.{ints}
use Rattle.fz_scheduling.specs.Places.{terms}
use Rattle.fz_scheduling.proofs.Windowed.{IsSummed}
use Rattle.fz_scheduling.proofs.slides.sum_of.Given as goal

abbrev pub invariant-loop-place : goal.invariant-loop-place
invariant-loop-place l = IsSummed (drop l.start (terms (option_map (λ s. s.now) l.counted) (ints l.xs))) l.place l.sum
