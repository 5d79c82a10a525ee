use Rattle.std.proofs.Common.{option_and_then, sym, ap, ◌∙◌, rules, FitsSigned, w64}
use Rattle.std.proofs.lemmas.Int.{to_z-of_z}
use Rattle.fz_kernel.specs.Given.{int_of}
use Rattle.fz_kernel.specs.Views.{assigned, slot_read}
use Rattle.fz_kernel.proofs.view.ArgumentView.int.Goals as goal

pub returns-in-Some : goal.returns-in-Some
returns-in-Some c =
    let s = c.args.self.now in
    let fits : FitsSigned w64 c.slot_int.result = search rules in
    simp to_z-of_z (record {
      read = c.slot_int.ensures ∙ ap (int_of (assigned s)) ((λ i. slot_read (c.constants.ensures i) c.in-Some.slot.now)
          ∙ sym (c.scalar.ensures ∙ ap (option_and_then (λ z. slot_read s.parts.store.now.constants.items z.now)) c.in-Some.is));
    })

pub returns-in-None : goal.returns-in-None
returns-in-None c =
    let s = c.args.self.now in
    record { read = ap (int_of (assigned s)) (sym (c.scalar.ensures ∙ ap (option_and_then (λ z. slot_read s.parts.store.now.constants.items z.now)) c.in-None.is)) }
