use Rattle.std.proofs.Common.{◌≡◌, None, map, take}
use Rattle.fz_store.specs.of_meaning.Meaning.{first_some}
use Rattle.fz_store.specs.of_meaning.View.{located_expr}
use Rattle.fz_store.specs.Parts.{argument_view}
use Rattle.fz_data.specs.Posting.{IsLonger}
use Rattle.fz_store.specs.of_meaning.Names.{argument_fault, argument_of}
use Rattle.fz_data.specs.Scope.{kinds_in, place_in}
use Rattle.fz_data.proofs.Grown.{SoFar}
use Rattle.fz_data.proofs.posting.arguments_of.Given as goal

abbrev pub invariant-loop-argument : goal.invariant-loop-argument
invariant-loop-argument l = record {
  clean : first_some (argument_fault (kinds_in l.scope))
      (map located_expr (take l.argument-index l.arguments)) ≡ None;
  given : SoFar IsLonger (argument_view l.scope.variables.items l.scope.arrays.items) l.store l.fn.store.arguments.items l.store.arguments.items (map (argument_of (place_in l.scope)) (map located_expr (take l.argument-index l.arguments)));
  longer : IsLonger l.fn.store l.store;
}
