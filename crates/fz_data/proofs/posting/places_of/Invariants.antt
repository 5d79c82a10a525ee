use Rattle.std.proofs.Common.{◌≡◌, None, map, take}
use Rattle.fz_store.specs.of_meaning.View.{located_basic}
use Rattle.fz_store.specs.Parts.{place_view}
use Rattle.fz_data.specs.Posting.{IsLonger}
use Rattle.fz_store.specs.of_meaning.Names.{parts_fault, place_of}
use Rattle.fz_data.specs.Scope.{kinds_in, place_in}
use Rattle.fz_store.specs.Slots.{IsGrown}
use Rattle.fz_data.proofs.Grown.{SoFar}
use Rattle.fz_data.proofs.posting.places_of.Given as goal

abbrev pub invariant-loop-part : goal.invariant-loop-part
invariant-loop-part l = record {
  clean : parts_fault (kinds_in l.scope) None (map located_basic (take l.part-index l.parts)) ≡ None;
  places : SoFar IsGrown (place_view l.scope.variables.items l.scope.arrays.items) l.store.constants.items l.fn.store.slots.items l.store.slots.items (map (place_of (place_in l.scope)) (map located_basic (take l.part-index l.parts)));
  longer : IsLonger l.fn.store l.store;
  kept : l.store.arguments.items ≡ l.fn.store.arguments.items;
}
