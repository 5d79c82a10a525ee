-- Booleans between others.
use Rattle.std.proofs.Common.{◌≡◌, Bool, true, false, not, List, [], ◌∷◌, refl, sym, ◌∙◌}
use Rattle.std.specs.List.{list_all, list_any}
use Rattle.fz_model.specs.declared.Kind.TheVariants.{Bool as BoolKind}
use Rattle.fz_model.proofs.Values.{no, no'}
use Rattle.fz_bounds.specs.Between.{AreAtMost}

pub all_more : (as' bs : List Bool) → AreAtMost BoolKind as' bs → list_all (λ x. x) as' ≡ true
    → list_all (λ x. x) bs ≡ true
all_more [] [] h e = refl
all_more (true ∷ as') (true ∷ bs) h e = all_more as' bs h.1 e
all_more (true ∷ as') (false ∷ bs) h e = no h.0
all_more (false ∷ as') bs h e = no e
all_more [] (b ∷ bs) h e = absurd h
all_more (true ∷ as') [] h e = absurd h

pub all_less : (as' bs : List Bool) → AreAtMost BoolKind as' bs → list_all (λ x. x) bs ≡ false
    → list_all (λ x. x) as' ≡ false
all_less as' bs h e =
    elim (list_all (λ x. x) as') as (λ b. list_all (λ x. x) as' ≡ b → b ≡ false) [
      | true ↦ λ is. no' (sym (all_more as' bs h is) ∙ e)
      | false ↦ λ _. refl
    ] refl

pub any_more : (as' bs : List Bool) → AreAtMost BoolKind as' bs → list_any (λ x. x) as' ≡ true
    → list_any (λ x. x) bs ≡ true
any_more [] [] h e = no e
any_more (true ∷ as') (true ∷ bs) h e = refl
any_more (true ∷ as') (false ∷ bs) h e = no h.0
any_more (false ∷ as') (true ∷ bs) h e = refl
any_more (false ∷ as') (false ∷ bs) h e = any_more as' bs h.1 e
any_more [] (b ∷ bs) h e = absurd h
any_more (a ∷ as') [] h e = absurd h

pub any_less : (as' bs : List Bool) → AreAtMost BoolKind as' bs → list_any (λ x. x) bs ≡ false
    → list_any (λ x. x) as' ≡ false
any_less as' bs h e =
    elim (list_any (λ x. x) as') as (λ b. list_any (λ x. x) as' ≡ b → b ≡ false) [
      | true ↦ λ is. no' (sym (any_more as' bs h is) ∙ e)
      | false ↦ λ _. refl
    ] refl

-- one is false
pub false_before : (as' bs : List Bool) → AreAtMost BoolKind as' bs
    → list_any (λ x. not x) bs ≡ true → list_any (λ x. not x) as' ≡ true
false_before [] [] h e = no e
false_before (true ∷ as') (true ∷ bs) h e = false_before as' bs h.1 e
false_before (true ∷ as') (false ∷ bs) h e = no h.0
false_before (false ∷ as') (b ∷ bs) h e = refl
false_before [] (b ∷ bs) h e = absurd h
false_before (a ∷ as') [] h e = absurd h

pub none_false : (as' bs : List Bool) → AreAtMost BoolKind as' bs
    → list_any (λ x. not x) as' ≡ false → list_any (λ x. not x) bs ≡ false
none_false as' bs h e =
    elim (list_any (λ x. not x) bs) as (λ b. list_any (λ x. not x) bs ≡ b → b ≡ false) [
      | true ↦ λ is. no' (sym (false_before as' bs h is) ∙ e)
      | false ↦ λ _. refl
    ] refl
