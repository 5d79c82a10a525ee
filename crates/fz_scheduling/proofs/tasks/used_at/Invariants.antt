use Rattle.std.specs.List.{zip}
use Rattle.fz_kernel.specs.of_meaning.Relations.{runs_at}
use Rattle.fz_kernel.specs.Views.{ints}
use Rattle.fz_scheduling.proofs.Chosen.{IsChosen}
use Rattle.fz_scheduling.proofs.tasks.used_at.Given as goal

abbrev pub invariant-loop-task : goal.invariant-loop-task
invariant-loop-task l = IsChosen (runs_at l.time) (zip (zip (ints l.starts) (ints l.durations)) (ints l.uses)) l.task l.sum
