use Rattle.std.proofs.Common.{◌≡◌, None, Some, map, take, true}
use Rattle.std.specs.List.{list_all}
use Rattle.fz_store.specs.of_meaning.View.{located_basic}
use Rattle.fz_store.specs.of_meaning.Names.{parts_fault, term_of}
use Rattle.fz_data.specs.Scope.{kinds_in, place_in}
use Rattle.fz_store.specs.Slots.{IsGrown, is_scalar, slot_term}
use Rattle.fz_data.proofs.Grown.{AllRead}
use Rattle.fz_data.proofs.scope.scalars_of.Given as goal

abbrev pub invariant-loop-part : goal.invariant-loop-part
invariant-loop-part l = record {
  clean : parts_fault (kinds_in l.scope) (Some l.wanted)
      (map located_basic (take l.part-index l.parts)) ≡ None;
  terms : AllRead IsGrown slot_term l.constants.items l.slots.items
      (map (term_of (place_in l.scope)) (map located_basic (take l.part-index l.parts)));
  flat : list_all is_scalar l.slots.items ≡ true;
}
