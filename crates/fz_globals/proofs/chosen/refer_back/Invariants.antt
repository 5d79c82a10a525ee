use Rattle.std.proofs.Common.{◌≡◌, ◌+ℤ◌, pos, drop}
use Rattle.fz_kernel.specs.of_meaning.Relations.{refer_back}
use Rattle.fz_kernel.specs.Views.{sets}
use Rattle.fz_globals.proofs.chosen.refer_back.Given as goal

abbrev pub invariant-loop-place : goal.invariant-loop-place
invariant-loop-place l =
    refer_back l.first (sets l.parts) l.first_other (sets l.others) ≡ refer_back (l.first +ℤ pos l.place) (drop l.place (sets l.parts)) l.first_other (sets l.others)
