use Rattle.std.proofs.Common.{List}
use Rattle.fz_syntax.specs.Offering.{Took, from_constraints, left_of}
use Rattle.fz_tree.specs.declared.tree.Constraint.{Constraint}
use Rattle.fz_data.proofs.text.behind_constraint.Given as goal

abbrev pub invariant-loop-more : goal.invariant-loop-more
invariant-loop-more l = (taken : List Constraint) × Took from_constraints taken l.fn.items.rest l.items.rest

abbrev pub decreases-loop-more : goal.decreases-loop-more
decreases-loop-more l = left_of l.items.rest
