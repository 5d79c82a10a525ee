use Rattle.std.proofs.Common.{◌≡◌, ◌++◌, ◌∷◌, [], FitsSigned, w64, sym, ap, ◌∙◌, rules}
use Rattle.std.proofs.lemmas.Int.{to_z-of_z}
use Rattle.fz_kernel.specs.Views.{ints}
use Rattle.fz_kernel.proofs.Left.{one_more}
use Rattle.fz_kernel.proofs.arrays.different.numbers_of.Goals as goal

pub loop-place-preserved : goal.loop-place-preserved
loop-place-preserved c =
    let x = c.int.result in
    let fits : FitsSigned w64 x = search rules in
    let pushed : c.push.new.self.items ≡ (c.loop-place.numbers.items ++ x ∷ []) = simp to_z-of_z at c.in_ok-push.ensures.items in
    pushed ∙ ap (λ l. l ++ x ∷ []) c.loop-place.invariant ∙ sym (one_more (ints c.args.elements.now) c.loop-place.place x c.int.ensures.read)
