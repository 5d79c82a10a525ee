use Rattle.std.proofs.Common.{◌≡◌, drop}
use Rattle.fz_kernel.specs.of_meaning.Relations.{is_partition}
use Rattle.fz_kernel.specs.Views.{sets}
use Rattle.fz_globals.proofs.partition.is_partition.Given as goal

abbrev pub invariant-loop-place : goal.invariant-loop-place
invariant-loop-place l = is_partition (sets l.parts) l.whole ≡ is_partition (drop l.place (sets l.parts)) l.left
