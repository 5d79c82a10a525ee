use Rattle.std.proofs.Common.{◌≡◌, ◌+ℤ◌, pos, drop}
use Rattle.fz_kernel.specs.of_meaning.Relations.{index_from}
use Rattle.fz_kernel.specs.Views.{ints}
use Rattle.fz_globals.proofs.best_index.index_of.Given as goal

abbrev pub invariant-loop-place : goal.invariant-loop-place
invariant-loop-place l =
    index_from l.first (ints l.elements) l.number ≡ index_from (l.first +ℤ pos l.place) (drop l.place (ints l.elements)) l.number
