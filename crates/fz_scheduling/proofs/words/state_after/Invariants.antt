use Rattle.std.proofs.Common.{◌≡◌, drop, take}
use Rattle.fz_kernel.specs.of_meaning.Relations.{run}
use Rattle.fz_kernel.specs.Views.{ints}
use Rattle.fz_scheduling.proofs.words.state_after.Given as goal

abbrev pub invariant-loop-place : goal.invariant-loop-place
invariant-loop-place l =
    run l.states l.symbols (ints l.transitions) l.fn.from (take l.count (ints l.xs)) ≡ run l.states l.symbols (ints l.transitions) l.state (drop l.place (take l.count (ints l.xs)))
