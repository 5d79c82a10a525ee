use Rattle.fz_filling.specs.Stepping.{NoneGives}
use Rattle.fz_filling.proofs.steps.step_between.Given as goal

abbrev pub invariant-loop-point : goal.invariant-loop-point
invariant-loop-point l = NoneGives l.model l.partial l.from l.point
