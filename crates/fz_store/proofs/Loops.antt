-- What holds of an entry that a look-up finds.
use Rattle.std.proofs.Common.{◌≡◌, ℕ, true, false, cond, List, [], ◌∷◌, Some, refl, sym, subst}
use Rattle.std.specs.List.{AllByRecursion}
use Rattle.std.specs.Map.{lookup}
use Rattle.std.proofs.lemmas.Slice.Eq.{bytes_eq-Decides}
use Rattle.fz_store.specs.Naming.{has_text}

-- what holds of each entry holds of the one that is found
pub found_entry : {D : Type 0} (P : List ℕ → D → Type 0) (x : List ℕ) (es : List (List ℕ × D))
    (d : D) → AllByRecursion (λ e. P e.0 e.1) es → Some d ≡ lookup (has_text x) es → P x d
found_entry P x [] d h e = cc
found_entry {D} P x (y ∷ es) d h e =
    (elim (has_text x y.0) as (λ b. has_text x y.0 ≡ b → Some d ≡ cond b (Some y.1) (lookup (has_text x) es) → P x d) [
      | true ↦ λ passes e.
          let same : y.1 ≡ d = cc in
          let text : y.0 ≡ x = sym ((bytes_eq-Decides x y.0).0 passes) in
          subst (λ z. P z d) text (subst (P y.0) same h.0)
      | false ↦ λ _ later. found_entry P x es d h.1 later
    ]) refl e
