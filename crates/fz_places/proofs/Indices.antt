-- The indices of an element, from the last index set on.
use Rattle.std.proofs.Common.{◌≡◌, ◌<◌, ◌%◌, ◌/◌, ◌==◌, ℕ, zero, suc, ℤ, pos, negsuc, ◌+ℤ◌, ◌-ℤ◌, ◌≤ℤ◌, true, false, cond, List, [], ◌∷◌, map, length, drop, get_or, Option, Some, None, option_map, refl, ap, ◌∙◌, arith, FitsSigned, ◌^◌, to_z, of_z}
use Rattle.std.specs.Option.{option_and_then}
use Rattle.std.specs.Int.{w64, w128}
use Rattle.std.proofs.Math.Nat.{mod-lt}
use Rattle.std.proofs.lemmas.Bool.{eqb-true}
use Rattle.std.proofs.lemmas.Int.{ints, to_z-of_z, to_z_pos}
use Rattle.fz_meaning.specs.of_base.Sets.{at_least_none, count_between}
use Rattle.fz_tree.specs.View.{bare_basic, basic_list}
use Rattle.fz_tree.specs.declared.tree.NoteBasic.{NoteBasic}
use Rattle.fz_places.specs.Elements.{index_between, index_in, indices_in}

-- one index set before others
pub one_set : (sets : List NoteBasic) (k j : ℕ) (set : NoteBasic) → j < length sets
    → set ≡ get_or sets j set
    → indices_in (basic_list (map bare_basic (drop j sets))) k ≡ option_and_then (λ behind. option_map (λ i. (i.0, i.1 ∷ behind.1)) (index_in (bare_basic set) behind.0)) (indices_in (basic_list (map bare_basic (drop (suc j) sets))) k)
one_set [] k j set less at = absurd (omega arith)
one_set (s ∷ sets) k zero set less at = rw at refl
one_set (s ∷ sets) k (suc j) set less at = one_set sets k j set (omega (arith, less)) at

-- where there is no index in some set
pub none_at_all : (sets : List NoteBasic) (k j : ℕ)
    → indices_in (basic_list (map bare_basic (drop j sets))) k ≡ None
    → indices_in (basic_list (map bare_basic sets)) k ≡ None
none_at_all [] k zero none = none
none_at_all [] k (suc j) none = none
none_at_all (s ∷ sets) k zero none = none
none_at_all (s ∷ sets) k (suc j) none = ap (λ o. option_and_then (λ behind. option_map (λ i. (i.0, i.1 ∷ behind.1)) (index_in (bare_basic s) behind.0)) o) (none_at_all sets k j none)

-- an index lies in its range
within : (low high z : ℤ) (m : ℕ) → z ≡ (high +ℤ pos 1) -ℤ low → m < at_least_none z
    → (low +ℤ pos m) ≤ℤ high
within low high (pos n) m is less = omega (arith, ints, is, less)
within low high (negsuc n) m is less = absurd (omega (arith, less))

pub index_fits : (low high : ℤ) (k : ℕ) → FitsSigned w64 low → FitsSigned w64 high
    → (count_between low high ≡ 0 → ⊥) → FitsSigned w64 (low +ℤ pos (k % count_between low high))
index_fits low high k fits ends some =
    let m = k % count_between low high in
    let le : (low +ℤ pos m) ≤ℤ high = within low high (high +ℤ pos 1 -ℤ low) m refl (mod-lt k (omega (arith, some))) in
    omega (arith, ints, le, fits, ends)

-- an index as it is computed
pub index_is : (low high : ℤ) (k : ℕ) → FitsSigned w64 low → FitsSigned w64 high
    → (count_between low high ≡ 0 → ⊥)
    → to_z w64 (of_z w64 (to_z w128 (of_z w128 (to_z w128 (of_z w128 low) +ℤ to_z w128 (k % count_between low high))))) ≡ low +ℤ pos (k % count_between low high)
index_is low high k fits ends some =
    let m = k % count_between low high in
    let d = index_fits low high k fits ends some in
    let short : m < 2 ^ 127 = omega (arith, ints, fits, d) in
    let a : FitsSigned w128 low = omega (arith, ints, fits) in
    let b : FitsSigned w128 (low +ℤ pos m) = omega (arith, ints, d) in
    ap (λ z. to_z w64 (of_z w64 (to_z w128 (of_z w128 (z +ℤ to_z w128 m))))) (to_z-of_z w128 low a)
    ∙ ap (λ z. to_z w64 (of_z w64 (to_z w128 (of_z w128 (low +ℤ z))))) (to_z_pos w128 m short)
    ∙ ap (λ z. to_z w64 (of_z w64 z)) (to_z-of_z w128 (low +ℤ pos m) b)
    ∙ to_z-of_z w64 (low +ℤ pos m) d

pub index_here : (low high : ℤ) (k : ℕ) → FitsSigned w64 low → FitsSigned w64 high
    → (count_between low high ≡ 0 → ⊥)
    → ◌≡◌ {A = Option (ℕ × ℤ)} (Some (k / count_between low high, to_z w64 (of_z w64 (to_z w128 (of_z w128 (to_z w128 (of_z w128 low) +ℤ to_z w128 (k % count_between low high))))))) (index_between low high k)
index_here low high k fits ends some =
    let n = count_between low high in
    ap (λ z. Some (k / n, z)) (index_is low high k fits ends some)
    ∙ (elim (n == 0) as (λ b. (n == 0) ≡ b → ◌≡◌ {A = Option (ℕ × ℤ)} (Some (k / n, low +ℤ pos (k % n))) (cond b None (Some (k / n, low +ℤ pos (k % n))))) [
      | true ↦ λ e. absurd (some (eqb-true n 0 e))
      | false ↦ λ _. refl
    ]) refl
