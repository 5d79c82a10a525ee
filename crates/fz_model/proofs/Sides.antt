-- What a domain and a definition force.
use Rattle.std.proofs.Common.{◌⊎◌, length, ◌<◌, ◌≡◌, ℕ, ℤ, pos, ◌≤ℤ◌, true, cond, ◌&&◌, [], ◌∷◌, Option, Some, None, IfSome, IfNone, IsTrue, IsSomeAnd, is_none, FitsSigned, w64, refl, sym, ap, subst, ◌∙◌, inl, inr, arith}
use Rattle.std.specs.Prelude.{int_le}
use Rattle.std.proofs.lemmas.Int.{ints}
use Rattle.std.proofs.lemmas.Option.{same_Some}
use Rattle.fz_builtins.specs.of_meaning.of_base.Sets.{NumberSet}
use Rattle.fz_builtins.specs.of_meaning.of_base.Elements.{IsOnly}
use Rattle.fz_builtins.specs.of_meaning.of_base.declared.value.Value.{Value}
use Rattle.fz_builtins.specs.of_meaning.of_base.declared.value.Value.TheVariants.{Int}
use Rattle.fz_builtins.specs.of_meaning.Relations.{kind_of}
use Rattle.fz_builtins.specs.of_meaning.declared.kind.Kind.TheVariants.{Int as IntKind}
use Rattle.fz_builtins.specs.of_meaning.declared.term.Term.{Term}
use Rattle.fz_builtins.specs.of_meaning.declared.term.Term.TheVariants.{Var}
use Rattle.fz_builtins.specs.of_meaning.declared.term.Domain.TheVariants.{All, Within, Among}
use Rattle.fz_builtins.specs.of_meaning.Meaning.{Variable, Model, Partial, IsPartial, HoldsUnder, inside, value, value_at}
use Rattle.fz_builtins.specs.of_meaning.Meaning.Point.{DomainPoint, DefinitionPoint}
use Rattle.fz_builtins.specs.of_meaning.Steps.{Gives, HasOneNumber, kind_at, open_terms, give}
use Rattle.fz_builtins.proofs.of_meaning.States.{intro}
use Rattle.fz_builtins.proofs.of_meaning.Steps.{term_keeps, value_at_given, definition_sides}
use Rattle.fz_model.specs.Forced.{IsForced, IsFitting, IsOnlyNumber}
use Rattle.fz_builtins.proofs.of_meaning.Partials.{has_place}
use Rattle.fz_model.proofs.Gaps.{value_at_new}

-- ---- domains of one number

pub not_all : HasOneNumber All → ⊥
not_all (n, is) =
    let zero_is : pos 0 ≡ n = (is (pos 0)).0 refl in
    let one_is : pos 1 ≡ n = (is (pos 1)).0 refl in
    cc

between_ends : (lo hi k : ℤ) → lo ≤ℤ k → k ≤ℤ hi → (int_le lo k && int_le k hi) ≡ true
between_ends lo hi k h g = grind (arith, ints)

between_in_order : (lo hi k : ℤ) → (int_le lo k && int_le k hi) ≡ true → lo ≤ℤ hi
between_in_order lo hi k h = grind (arith, ints)

pub within_more : (lo hi : ℤ) → (lo ≡ hi → ⊥) → IsOnlyNumber (Within lo hi) None
within_more lo hi apart = λ (one : HasOneNumber (Within lo hi)).
    let n : ℤ = one.0 in
    let in_order : lo ≤ℤ hi = between_in_order lo hi n ((one.1 n).1 refl) in
    let low : lo ≡ n = (one.1 lo).0 (between_ends lo hi lo (omega (arith, ints)) in_order) in
    let high : hi ≡ n = (one.1 hi).0 (between_ends lo hi hi in_order (omega (arith, ints))) in
    apart (low ∙ sym high)

pub among_only : (s : NumberSet) (o : Option ℤ) → IfSome o (λ n. IsOnly n s)
    → IfNone o ((n : ℤ) → IsOnly n s → ⊥) → IsOnlyNumber (Among s) o
among_only s (Some n) found none = found
among_only s None found none = λ (one : HasOneNumber (Among s)). none one.0 one.1

module _ (m : Model) (K : Partial) (fits : IsPartial m K) where
  pub domain_forces : (x : Variable) (n : ℕ) (k : ℤ) → kind_at m n ≡ Some x.kind → x.kind ≡ IntKind
      → value_at K n ≡ None → FitsSigned w64 k → IsOnlyNumber x.domain (Some k)
      → IsForced m K (DomainPoint x n) (Some (n, Int k))
  domain_forces x n k own int none range only = record {
    target = (refl, int, (k, only));
    only_open = ap (λ o. cond (is_none o) (Var n ∷ []) []) none;
    of_kind = own ∙ ap Some int;
    within_limits = range;
    numbers_fit = tt;
    then_holds = intro (λ v. IsTrue (inside x.domain v)) (value_at (give K n (Int k)) n) (Int k) (value_at_new K n (Int k) (has_place m K n x.kind fits own)) ((only k).1 refl);
  }

  -- ---- the sides of a definition

  -- where exactly one side, that of y, has no value, and the other has the value w
  module _ (x : Variable) (n y : ℕ) (e : Term) (w : Value) (target : (n ≡ y) ⊎ (e ≡ Var y)) (only : open_terms K (Var n ∷ e ∷ []) ≡ Var y ∷ [])
      (same_sides : (v u : Value) → value_at (give K y v) n ≡ Some u → value (give K y v) e ≡ Some u → v ≡ w)
      (both_sides : y < length K → (value_at (give K y w) n ≡ Some w) × (value (give K y w) e ≡ Some w)) where
    side_forced : (o : Option (ℕ × Value)) → IsFitting m y w o → IsForced m K (DefinitionPoint x n e) o
    side_forced (Some r) fit =
        let both = both_sides (has_place m K y (kind_of w) fits fit.2) in
        let inner = intro (λ u. w ≡ u) (value (give K y w) e) w both.1 refl in
        subst (λ q. Gives m K (DefinitionPoint x n e) q.0 q.1) (sym fit.0) (record {
          target = target;
          only_open = only;
          of_kind = fit.2;
          within_limits = fit.1;
          numbers_fit = tt;
          then_holds = intro (λ v. IsSomeAnd (value (give K y w) e) (λ u. v ≡ u)) (value_at (give K y w) n) w both.0 inner;
        })
    side_forced None fit = nothing
      where
        nothing : (k : ℕ) (v : Value) → Gives m K (DefinitionPoint x n e) k v → ⊥
        nothing k v g =
            let same_terms : Var y ∷ [] ≡ Var k ∷ [] = sym only ∙ g.only_open in
            let same : k ≡ y = cc in
            let (u, left, right) = definition_sides (give K y v) x n e (subst (λ j. HoldsUnder (give K j v) (DefinitionPoint x n e)) same g.then_holds) in
            fit (ap (kind_at m) (sym same) ∙ g.of_kind ∙ ap (λ z. Some (kind_of z)) (same_sides v u left right))

  -- the variable has no value, and the other side has one
  module _ (x : Variable) (n : ℕ) (e : Term) (w : Value) (none : value_at K n ≡ None) (some : value K e ≡ Some w) where
    right_stays : (v : Value) → value (give K n v) e ≡ Some w
    right_stays v = term_keeps K n none v e (ap is_none some) ∙ some

    pub left_forced : (o : Option (ℕ × Value)) → IsFitting m n w o
        → IsForced m K (DefinitionPoint x n e) o
    left_forced =
        side_forced x n n e w (inl refl)
        (ap (λ o. cond (is_none o) (Var n ∷ cond (is_none (value K e)) (e ∷ []) []) (cond (is_none (value K e)) (e ∷ []) [])) none ∙ ap (λ o. Var n ∷ cond (is_none o) (e ∷ []) []) some)
        (λ v u left right. sym (value_at_given K n v u left) ∙ same_Some u w (sym right ∙ right_stays v))
        (λ within. (value_at_new K n w within, right_stays w))

  -- the variable has a value, and the other side is a variable without one
  module _ (x : Variable) (n y : ℕ) (w : Value) (some : value_at K n ≡ Some w) (none : value_at K y ≡ None) where
    left_stays : (v : Value) → value (give K y v) (Var n) ≡ Some w
    left_stays v = term_keeps K y none v (Var n) (ap is_none some) ∙ some

    pub right_forced : (o : Option (ℕ × Value)) → IsFitting m y w o
        → IsForced m K (DefinitionPoint x n (Var y)) o
    right_forced =
        side_forced x n y (Var y) w (inr refl)
        (ap (λ o. cond (is_none o) (Var n ∷ cond (is_none (value_at K y)) (Var y ∷ []) []) (cond (is_none (value_at K y)) (Var y ∷ []) [])) some ∙ ap (λ o. cond (is_none o) (Var y ∷ []) []) none)
        (λ v u left right. sym (value_at_given K y v u right) ∙ same_Some u w (sym left ∙ left_stays v))
        (λ within. (left_stays w, value_at_new K y w within))
