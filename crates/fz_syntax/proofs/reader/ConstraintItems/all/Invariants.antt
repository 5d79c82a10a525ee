use Rattle.fz_syntax.specs.Offering.{Took, from_constraints, left_of}
use Rattle.fz_syntax.proofs.reader.ConstraintItems.all.Given as goal

abbrev pub invariant-loop-all : goal.invariant-loop-all
invariant-loop-all l = Took from_constraints l.all.items l.fn.self.rest l.items.rest

abbrev pub decreases-loop-all : goal.decreases-loop-all
decreases-loop-all l = left_of l.items.rest
