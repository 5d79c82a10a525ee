use Rattle.std.proofs.Common.{sym}
use Rattle.fz_store.specs.of_meaning.declared.term.Term.TheVariants.{Fixed}
use Rattle.fz_data.proofs.Grown.{slot_is}
use Rattle.fz_data.proofs.posting.place_of.Goals as goal

pub returns-in_ok-value_slot-in-Lit-clause-place : goal.returns-in_ok-value_slot-in-Lit-clause-place
returns-in_ok-value_slot-in-Lit-clause-place c later g =
    rw (c.in-Lit.is, sym c.in_ok-value-in-Lit.ensures)
    (slot_is c.args.scope.now.variables.items c.args.scope.now.arrays.items c.value_slot.new.constants.items (Fixed c.in_ok-value-in-Lit.value) c.in_ok-value_slot-in-Lit.field-0 c.in_ok-value_slot-in-Lit.ensures.slot later g)
