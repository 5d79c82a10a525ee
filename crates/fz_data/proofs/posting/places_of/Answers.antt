use Rattle.std.proofs.Common.{None, arith, map, subst}
use Rattle.std.proofs.lemmas.List.{length-map, take_all}
use Rattle.fz_store.specs.of_meaning.View.{located_basic}
use Rattle.fz_store.proofs.of_meaning.ScanSteps.{first_more}
use Rattle.fz_store.specs.Parts.{place_view}
use Rattle.fz_store.specs.of_meaning.Names.{part_fault, place_of}
use Rattle.fz_data.specs.Scope.{kinds_in, place_in}
use Rattle.fz_store.specs.Slots.{IsGrown}
use Rattle.fz_data.proofs.Grown.{SoFar, grown_none, grown_more, grown_one, next_so_far, segment_is}
use Rattle.fz_data.proofs.posting.places_of.Goals as goal

pub loop-part-preserved : goal.loop-part-preserved
loop-part-preserved c =
    let before = c.loop-part.store in
    let grown = c.in_ok-slot.ensures.grown in
    record {
      clean = first_more (part_fault (kinds_in c.args.scope.now) None) located_basic c.args.parts.now c.loop-part.part-index c.part-item.result c.loop-part-test.true c.part-item.is c.loop-part.invariant.clean c.in_ok-slot.ensures.known;
      places = next_so_far IsGrown (place_view c.args.scope.now.variables.items c.args.scope.now.arrays.items) (place_of (place_in c.args.scope.now)) located_basic c.args.parts.now c.loop-part.part-index c.part-item.result
          before.constants.items c.place_of.new.constants.items c.args.store.now.slots.items before.slots.items c.push.new.self.items c.in_ok-slot.slot c.loop-part-test.true c.part-item.is
          (λ later g. grown_more before.constants.items c.place_of.new.constants.items later grown g) c.in_ok-push.ensures.items c.in_ok-slot.ensures.place c.loop-part.invariant.places;
      longer = record {
        arguments = c.loop-part.invariant.longer.arguments;
        slots = grown_one c.args.store.now.slots.items before.slots.items c.push.new.self.items c.in_ok-slot.slot c.loop-part.invariant.longer.slots c.in_ok-push.ensures.items;
        constants = grown_more c.args.store.now.constants.items before.constants.items c.place_of.new.constants.items c.loop-part.invariant.longer.constants grown;
      };
      kept = c.loop-part.invariant.kept;
    }

pub returns-clause-places : goal.returns-clause-places
returns-clause-places c later h =
    let all = take_all c.loop-part.part-index c.args.parts.now c.loop-part-test.false in
    segment_is IsGrown (place_view c.args.scope.now.variables.items c.args.scope.now.arrays.items) c.loop-part.store.constants.items c.args.store.now.slots.items c.loop-part.store.slots.items
    (map (place_of (place_in c.args.scope.now)) (map located_basic c.args.parts.now)) c.in_ok-first.first c.in_ok-count.count
    (omega (arith, c.in_ok-first.ensures, c.len.ensures, c.args.store.now.slots.ok.0))
    (omega (arith, c.in_ok-count.ensures, length-map (map located_basic c.args.parts.now) (place_of (place_in c.args.scope.now)), length-map c.args.parts.now located_basic))
    (subst (λ ps. SoFar IsGrown (place_view c.args.scope.now.variables.items c.args.scope.now.arrays.items) c.loop-part.store.constants.items c.args.store.now.slots.items c.loop-part.store.slots.items (map (place_of (place_in c.args.scope.now)) (map located_basic ps))) all c.loop-part.invariant.places) (grown_none c.loop-part.store.constants.items) later.constants.items h.constants later.slots.items h.slots
