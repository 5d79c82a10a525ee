use Rattle.fz_filling.proofs.Accepted.{satisfied_solves}
use Rattle.fz_filling.proofs.laws.satisfied_is_solved.Goals as goal

pub returns : goal.returns
returns c = λ m K block before partial satisfied. let s = satisfied_solves m K block before partial satisfied in (s.assignment, s.is, s.extends, s.solution)
