use Rattle.fz_explain.specs.Firsts.{NoneBefore}
use Rattle.fz_explain.specs.Told.{IsSought}
use Rattle.fz_explain.proofs.failing.first_point.Given as goal

abbrev pub invariant-loop-number : goal.invariant-loop-number
invariant-loop-number l = NoneBefore l.model (IsSought l.filling l.sought) l.number
