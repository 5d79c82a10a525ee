use Rattle.std.proofs.Common.{option_and_then, sym, ap, ◌∙◌}
use Rattle.fz_kernel.specs.Given.{set_of_slot}
use Rattle.fz_kernel.specs.Views.{assigned, slot_read}
use Rattle.fz_kernel.proofs.view.ArgumentView.set.Goals as goal

pub returns-in-Some : goal.returns-in-Some
returns-in-Some c =
    let s = c.args.self.now in
    record {
      read = c.slot_set.ensures ∙ ap (set_of_slot (assigned s)) ((λ i. slot_read (c.constants.ensures i) c.in-Some.slot.now)
          ∙ sym (c.scalar.ensures ∙ ap (option_and_then (λ z. slot_read s.parts.store.now.constants.items z.now)) c.in-Some.is));
    }

pub returns-in-None : goal.returns-in-None
returns-in-None c =
    let s = c.args.self.now in
    record { read = c.no_numbers.ensures.empty ∙ ap (set_of_slot (assigned s)) (sym (c.scalar.ensures ∙ ap (option_and_then (λ z. slot_read s.parts.store.now.constants.items z.now)) c.in-None.is)) }
