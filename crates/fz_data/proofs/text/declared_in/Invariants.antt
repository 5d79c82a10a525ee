use Rattle.std.proofs.Common.{List, map}
use Rattle.fz_syntax.specs.Offering.{Took, from_decls, left_of}
use Rattle.fz_tree.specs.declared.tree.Decl.{Decl}
use Rattle.fz_store.specs.of_meaning.View.{located_decl}
use Rattle.fz_data.specs.Scope.{HasKinds}
use Rattle.fz_data.specs.Stands.{Declares}
use Rattle.fz_data.proofs.text.declared_in.Given as goal

abbrev pub invariant-loop-scope : goal.invariant-loop-scope
invariant-loop-scope l = record {
  declared : (ds : List Decl) × Took from_decls ds l.fn.items.rest l.items.rest
      × Declares (map located_decl ds) l.scope;
  kinds : HasKinds l.scope;
}

abbrev pub decreases-loop-scope : goal.decreases-loop-scope
decreases-loop-scope l = left_of l.items.rest
