use Rattle.std.proofs.Common.{◌≡◌, ◌+◌, ◌*◌, ◌≤◌, drop}
use Rattle.fz_kernel.specs.Views.{sets}
use Rattle.fz_globals.specs.Held.{size_of_all}
use Rattle.fz_globals.proofs.channels.size_of_all.Given as goal

abbrev pub invariant-loop-place : goal.invariant-loop-place
invariant-loop-place l = record {
  bound : l.size ≤ 18446744073709551616 * l.place;
  whole : size_of_all (sets l.parts) ≡ l.size + size_of_all (drop l.place (sets l.parts));
}
