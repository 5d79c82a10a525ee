use Rattle.std.proofs.Common.{◌≡◌, None, drop}
use Rattle.fz_places.specs.Paths.{innermost}
use Rattle.fz_places.proofs.path.innermost.Given as goal

abbrev pub invariant-loop-segment : goal.invariant-loop-segment
invariant-loop-segment l = innermost l.first None l.segments ≡ innermost l.first l.place (drop l.segment-index l.segments)
