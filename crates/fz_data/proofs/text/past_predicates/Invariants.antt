use Rattle.std.proofs.Common.{List}
use Rattle.fz_syntax.specs.Offering.{Took, from_predicates, left_of}
use Rattle.fz_tree.specs.declared.tree.Predicate.{Predicate}
use Rattle.fz_data.proofs.text.past_predicates.Given as goal

abbrev pub invariant-loop-predicate : goal.invariant-loop-predicate
invariant-loop-predicate l = (taken : List Predicate) × Took from_predicates taken l.fn.items.rest l.items.rest

abbrev pub decreases-loop-predicate : goal.decreases-loop-predicate
decreases-loop-predicate l = left_of l.items.rest
