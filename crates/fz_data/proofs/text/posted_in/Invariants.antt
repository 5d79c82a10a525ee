use Rattle.std.proofs.Common.{List, map}
use Rattle.fz_syntax.specs.Offering.{Took, from_constraints, left_of}
use Rattle.fz_tree.specs.declared.tree.Constraint.{Constraint}
use Rattle.fz_store.specs.of_meaning.View.{located_constraint}
use Rattle.fz_data.specs.Posting.{Posts}
use Rattle.fz_data.proofs.text.posted_in.Given as goal

abbrev pub invariant-loop-found : goal.invariant-loop-found
invariant-loop-found l = (cs : List Constraint)
    × Took from_constraints cs l.fn.items.rest l.items.rest
    × Posts l.scope (map located_constraint cs) l.store l.found.items

abbrev pub decreases-loop-found : goal.decreases-loop-found
decreases-loop-found l = left_of l.items.rest
