use Rattle.fz_filling.proofs.Noting.{AreNoted}
use Rattle.fz_filling.proofs.lone.lone_givers.Given as goal

abbrev pub invariant-loop-point : goal.invariant-loop-point
invariant-loop-point l = AreNoted l.model l.givers.items l.point
