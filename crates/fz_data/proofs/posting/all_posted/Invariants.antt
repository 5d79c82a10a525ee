use Rattle.std.proofs.Common.{map, take}
use Rattle.fz_store.specs.of_meaning.View.{located_constraint}
use Rattle.fz_data.specs.Posting.{Posts}
use Rattle.fz_data.proofs.posting.all_posted.Given as goal

abbrev pub invariant-loop-constraint : goal.invariant-loop-constraint
invariant-loop-constraint l = record { posts : Posts l.scope (map located_constraint (take l.constraint-index l.constraints)) l.store l.found.items }
