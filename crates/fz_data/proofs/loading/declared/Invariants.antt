use Rattle.std.proofs.Common.{map, take}
use Rattle.fz_store.specs.of_meaning.View.{located_decl}
use Rattle.fz_data.specs.Scope.{HasKinds}
use Rattle.fz_data.specs.Stands.{Declares}
use Rattle.fz_data.proofs.loading.declared.Given as goal

abbrev pub invariant-loop-decl : goal.invariant-loop-decl
invariant-loop-decl l = record {
  declares : Declares (map located_decl (take l.decl-index l.decls)) l.scope;
  kinds : HasKinds l.scope;
}
