use Rattle.std.proofs.Common.{List}
use Rattle.fz_syntax.specs.Offering.{Took, from_decls, left_of}
use Rattle.fz_tree.specs.declared.tree.Decl.{Decl}
use Rattle.fz_data.proofs.text.behind_decl.Given as goal

abbrev pub invariant-loop-decl : goal.invariant-loop-decl
invariant-loop-decl l = (taken : List Decl) × Took from_decls taken l.fn.items.rest l.items.rest

abbrev pub decreases-loop-decl : goal.decreases-loop-decl
decreases-loop-decl l = left_of l.items.rest
