-- In a tree without faults the scalar variable with number i has the name that is numbered i.
use Rattle.std.proofs.Common.{◌≡◌, ℕ, suc, zero, ◌+◌, true, false, cond, List, [], ◌∷◌, ◌++◌, Some, refl, sym, ap, ◌∙◌, slice_get, append_assoc, arith}
use Rattle.fz_meaning.specs.Names.{HasNoFault, is_scalar_variable, number_of}
use Rattle.fz_meaning.specs.Laws.{scalar_variables}
use Rattle.fz_meaning.specs.Located.{Decl, LocatedTree}
use Rattle.fz_meaning.proofs.KnownNames.{next_number, next_number_more, number_here}
use Rattle.fz_meaning.proofs.Names.{AreNew, sound_names}

-- scalar variables are numbered on from those before them
numbered_on : (before ds : List Decl) → AreNew before ds → (i : ℕ) (d : Decl)
    → slice_get (scalar_variables ds) i ≡ Some d
    → number_of (before ++ ds) d.name.text ≡ next_number before + i
numbered_on before [] new i d at = cc
numbered_on before (e ∷ ds) new i d at =
    let later : (j : ℕ) → slice_get (scalar_variables ds) j ≡ Some d
    → number_of (before ++ e ∷ ds) d.name.text ≡ next_number (before ++ e ∷ []) + j =
    λ j at. ap (λ zs. number_of zs d.name.text) (sym (append_assoc before (e ∷ []) ds))
    ∙ numbered_on (before ++ e ∷ []) ds new.1 j d at in
    (elim (is_scalar_variable e) as (λ b. is_scalar_variable e ≡ b
    → slice_get (cond b (e ∷ scalar_variables ds) (scalar_variables ds)) i ≡ Some d
    → number_of (before ++ e ∷ ds) d.name.text ≡ next_number before + i) [
      | true ↦ λ is. first i later is
      | false ↦ λ is at. later i at ∙ ap (λ n. n + i) (counted is)
    ]) refl at
  where
    counted : {b : _} → is_scalar_variable e ≡ b → next_number (before ++ e ∷ [])
        ≡ cond b (suc (next_number before)) (next_number before)
    counted is = next_number_more before e
        ∙ ap (λ b. cond b (suc (next_number before)) (next_number before)) is

    first : (i : ℕ) → ((j : ℕ) → slice_get (scalar_variables ds) j ≡ Some d
        → number_of (before ++ e ∷ ds) d.name.text ≡ next_number (before ++ e ∷ []) + j)
        → is_scalar_variable e ≡ true → slice_get (e ∷ scalar_variables ds) i ≡ Some d
        → number_of (before ++ e ∷ ds) d.name.text ≡ next_number before + i
    first zero later is at =
        let same : e ≡ d = cc in
        let here : number_of (before ++ e ∷ ds) e.name.text ≡ next_number before =
        number_here before e ds new.0 is in
        ap (λ z. number_of (before ++ e ∷ ds) z.name.text) (sym same) ∙ omega (arith, here)
    first (suc j) later is at =
        let more : next_number (before ++ e ∷ []) ≡ suc (next_number before) = counted is in
        let there : number_of (before ++ e ∷ ds) d.name.text ≡ next_number (before ++ e ∷ []) + j =
        later j at in
        omega (arith, more, there)

-- The variable at index i has number i.
pub numbers_agree : (t : LocatedTree) → HasNoFault t → (i : ℕ) (d : Decl)
    → slice_get (scalar_variables t.decls) i ≡ Some d → number_of t.decls d.name.text ≡ i
numbers_agree t sound i d at = numbered_on [] t.decls (sound_names t sound) i d at ∙ omega arith
