use Rattle.std.proofs.Common.{option_map}
use Rattle.fz_kernel.specs.Views.{ints}
use Rattle.fz_scheduling.specs.Places.{terms}
use Rattle.fz_scheduling.proofs.Windowed.{Slides}
use Rattle.fz_scheduling.proofs.slides.running_sums_lie_between.Given as goal

abbrev pub invariant-loop-start : goal.invariant-loop-start
invariant-loop-start l = Slides l.low l.high l.width (terms (option_map (λ s. s.now) l.counted) (ints l.xs)) l.start l.sum
