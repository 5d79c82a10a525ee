-- Slots that follow each other, none of them an array.
use Rattle.std.proofs.Common.{◌≡◌, Bool, true, ◌&&◌, List, [], ◌∷◌, ◌++◌, refl, ap, ◌∙◌}
use Rattle.std.specs.List.{list_all}
use Rattle.std.proofs.lemmas.List.Folds.{list_all-append}
use Rattle.fz_store.specs.declared.store.Slot.{Slot}
use Rattle.fz_store.specs.Slots.{is_scalar}

both_true : (a b : Bool) → a ≡ true → b ≡ true → (a && b) ≡ true
both_true a b e d = λ i. e i && d i

pub one_flat : (old new : List Slot) (s : Slot) → new ≡ old ++ s ∷ []
    → list_all is_scalar old ≡ true → is_scalar s ≡ true → list_all is_scalar new ≡ true
one_flat old new s pushed h one =
    ap (list_all is_scalar) pushed ∙ list_all-append is_scalar old (s ∷ []) ∙ both_true _ _ h (both_true (is_scalar s) true one refl)
