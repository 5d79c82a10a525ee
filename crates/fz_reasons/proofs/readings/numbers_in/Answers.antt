use Rattle.std.proofs.Common.{◌≡◌, ◌++◌, ◌∷◌, [], FitsSigned, w64, sym, ap, ◌∙◌, rules}
use Rattle.std.proofs.lemmas.Int.{to_z-of_z}
use Rattle.fz_builtins.specs.of_kernel.Views.{slots_of, under}
use Rattle.fz_builtins.proofs.of_kernel.Left.{one_more}
use Rattle.fz_reasons.specs.Reasons.{numbers_of}
use Rattle.fz_reasons.proofs.readings.numbers_in.Goals as goal

pub loop-place-preserved : goal.loop-place-preserved
loop-place-preserved c =
    let x = c.number_at.result in
    let fits : FitsSigned w64 x = search rules in
    let pushed : c.push.new.self.items ≡ (c.loop-place.numbers.items ++ x ∷ []) = simp to_z-of_z at c.in_ok-push.ensures.items in
    pushed ∙ ap (λ l. l ++ x ∷ []) c.loop-place.invariant
    ∙ sym (one_more (numbers_of c.args.kind (under c.args.elements.now) (slots_of c.args.elements.now)) c.loop-place.place x c.number_at.ensures)
