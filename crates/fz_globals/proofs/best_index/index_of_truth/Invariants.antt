use Rattle.std.proofs.Common.{◌≡◌, ◌+ℤ◌, pos, drop, map}
use Rattle.fz_kernel.specs.of_meaning.Relations.{as_number, index_from}
use Rattle.fz_kernel.specs.Views.{bools}
use Rattle.fz_globals.proofs.best_index.index_of_truth.Given as goal

abbrev pub invariant-loop-place : goal.invariant-loop-place
invariant-loop-place l =
    index_from l.first (map as_number (bools l.elements)) (as_number l.truth)
    ≡ index_from (l.first +ℤ pos l.place) (drop l.place (map as_number (bools l.elements))) (as_number l.truth)
