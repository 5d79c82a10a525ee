use Rattle.std.proofs.Common.{◌≡◌, drop}
use Rattle.fz_explain.specs.Leaving.{first_leaving, leaving_from}
use Rattle.fz_explain.proofs.sums.first_leaving.Given as goal

abbrev pub invariant-loop-place : goal.invariant-loop-place
invariant-loop-place l = first_leaving l.numbers ≡ leaving_from l.place l.sum (drop l.place l.numbers)
