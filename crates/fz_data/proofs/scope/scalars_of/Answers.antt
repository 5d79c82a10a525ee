use Rattle.std.proofs.Common.{Some, map, ap, ◌∙◌}
use Rattle.std.proofs.lemmas.List.{take_all}
use Rattle.fz_store.specs.of_meaning.View.{located_basic}
use Rattle.fz_store.proofs.of_meaning.ScanSteps.{first_more}
use Rattle.fz_store.specs.of_meaning.Names.{part_fault, term_of}
use Rattle.fz_data.specs.Scope.{kinds_in, place_in}
use Rattle.fz_store.specs.Slots.{IsGrown, slot_term}
use Rattle.fz_data.proofs.Grown.{grown_none, grown_more, next_read}
use Rattle.fz_data.proofs.Flat.{one_flat}
use Rattle.fz_data.proofs.scope.scalars_of.Goals as goal

pub loop-part-preserved : goal.loop-part-preserved
loop-part-preserved c = record {
  clean = first_more (part_fault (kinds_in c.args.scope.now) (Some c.args.wanted)) located_basic c.args.parts.now c.loop-part.part-index c.part-item.result c.loop-part-test.true c.part-item.is c.loop-part.invariant.clean c.in_ok-term.ensures.of_kind;
  terms = next_read IsGrown slot_term (term_of (place_in c.args.scope.now)) located_basic c.args.parts.now c.loop-part.part-index c.part-item.result c.loop-part.constants.items c.slot_of.new.constants.items c.loop-part.slots.items c.push.new.self.items c.in_ok-slot.slot
      c.loop-part-test.true c.part-item.is (λ later g. grown_more c.loop-part.constants.items c.slot_of.new.constants.items later c.in_ok-slot.ensures.grown g) c.in_ok-push.ensures.items
      (λ later g. c.in_ok-slot.ensures.slot.stands later g ∙ c.in_ok-term.ensures.term) c.loop-part.invariant.terms;
  flat = one_flat c.loop-part.slots.items c.push.new.self.items c.in_ok-slot.slot c.in_ok-push.ensures.items c.loop-part.invariant.flat c.in_ok-slot.ensures.slot.scalar;
}

pub returns-clause-terms : goal.returns-clause-terms
returns-clause-terms c =
    c.loop-part.invariant.terms c.loop-part.constants.items (grown_none c.loop-part.constants.items)
    ∙ ap (λ ps. map (term_of (place_in c.args.scope.now)) (map located_basic ps)) (take_all c.loop-part.part-index c.args.parts.now c.loop-part-test.false)
