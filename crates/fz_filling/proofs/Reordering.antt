-- A point gives the same step under later values as long as its variable has none; so steps of two
-- points can change places.
use Rattle.std.proofs.Common.{◌≡◌, ℕ, suc, zero, true, false, cond, List, [], ◌∷◌, length, Option, Some, None, refl, sym, ap, subst, ◌∙◌, is_none}
use Rattle.fz_index.specs.of_model.of_base.declared.value.Value.{Value}
use Rattle.fz_index.specs.of_model.declared.Term.{Term}
use Rattle.fz_index.specs.of_model.declared.Term.TheVariants.{Var}
use Rattle.fz_index.specs.of_model.Relations.{kind_of}
use Rattle.fz_index.specs.of_model.Meaning.{Model, Point, Partial, value, value_at}
use Rattle.fz_index.specs.of_model.Steps.{Gives, open_terms, terms_of, give}
use Rattle.fz_index.proofs.of_model.Steps.{PointFits, only_value, only_open_none, value_at_other, filter-none, is_open}
use Rattle.fz_index.specs.of_model.Openings.{HasEach}
use Rattle.fz_index.proofs.of_model.Under.{value_under}
use Rattle.fz_filling.proofs.Agreeing.{Agree, agree_back, gives_agree}
use Rattle.fz_filling.proofs.Running.{length_given}

-- ---- later values

abbrev pub IsOpen : Partial → ℕ → Type 0
IsOpen K n = value_at K n ≡ None

-- the second is of as many variables, and has all values of the first
pub record IsLater (K L : Partial) : Type 0 where
  pub as_many : length K ≡ length L
  pub has_all : HasEach K L

pub same_later : (K : Partial) → IsLater K K
same_later K = record { as_many = refl; has_all = λ n v e. e }

pub then_later : (K L M : Partial) → IsLater K L → IsLater L M → IsLater K M
then_later K L M first second = record { as_many = first.as_many ∙ second.as_many; has_all = λ n v set. second.has_all n v (first.has_all n v set) }

-- one more value is later
pub given_later : (K : Partial) (n : ℕ) (v : Value) → IsOpen K n → IsLater K (give K n v)
given_later K n v none = record {
  as_many = sym (length_given K n v);
  has_all = λ k u set. value_at_other K n k v (λ same. let here : value_at K k ≡ None = ap (value_at K) same ∙ none in cc) ∙ set;
}

-- another variable has no value then either
pub still_open : (K : Partial) (n k : ℕ) (v : Value) → (k ≡ n → ⊥) → IsOpen K k
    → IsOpen (give K n v) k
still_open K n k v other none = value_at_other K n k v other ∙ none

pub swapped : (K : Partial) (j k : ℕ) (u v : Value) → (j ≡ k → ⊥)
    → give (give K j u) k v ≡ give (give K k v) j u
swapped [] j k u v other = refl
swapped (o ∷ K) zero zero u v other = absurd (other refl)
swapped (o ∷ K) zero (suc k) u v other = refl
swapped (o ∷ K) (suc j) zero u v other = refl
swapped (o ∷ K) (suc j) (suc k) u v other = ap (λ L. o ∷ L) (swapped K j k u v (λ e. other (ap suc e)))

-- ---- scalars with the same values, or none, under both

module _ (K L : Partial) (under : HasEach K L) where
  same_value : (t : Term) (o : Option Value) → value K t ≡ o → is_none o ≡ false
      → value K t ≡ value L t
  same_value t None e closed = cc
  same_value t (Some v) e closed = e ∙ sym (value_under K L under t v e)

  closed_agree : (ts : List Term) → open_terms K ts ≡ [] → Agree K L ts
  closed_agree [] e = tt
  closed_agree (t ∷ ts) e = let parts = filter-none (is_open K) t ts e in (same_value t (value K t) refl parts.0, closed_agree ts parts.1)

  one_agrees : (n : ℕ) → IsOpen K n → IsOpen L n → (ts : List Term) → open_terms K ts ≡ Var n ∷ []
      → Agree K L ts
  one_agrees n none still [] e = tt
  one_agrees n none still (t ∷ ts) e =
      (elim (is_none (value K t)) as (λ b. is_none (value K t) ≡ b → cond b (t ∷ open_terms K ts) (open_terms K ts) ≡ Var n ∷ [] → Agree K L (t ∷ ts)) [
        | true ↦ λ _ e.
            let here : t ≡ Var n = cc in
            let closed : open_terms K ts ≡ [] = cc in
            (subst (λ s. value K s ≡ value L s) (sym here) (none ∙ sym still), closed_agree ts closed)
        | false ↦ λ closed e. (same_value t (value K t) refl closed, one_agrees n none still ts e)
      ]) refl e

-- ---- steps

-- what a point gives it gives later too, as long as the variable has no value
pub later_gives : (m : Model) (K L : Partial) (p : Point) (n : ℕ) (v : Value) → IsLater K L
    → IsOpen L n → Gives m K p n v → Gives m L p n v
later_gives m K L p n v later still g =
    gives_agree m K L p n v later.as_many (one_agrees K L later.has_all n (only_open_none K n (terms_of p) g.only_open) still (terms_of p) g.only_open) g

-- and what it gives later it gave before, if no other scalar of it was without a value
pub gives_before : (m : Model) (K L : Partial) (p : Point) (n : ℕ) (v : Value) → IsLater K L
    → open_terms K (terms_of p) ≡ Var n ∷ []
    → Gives m L p n v → Gives m K p n v
gives_before m K L p n v later only g =
    let none : value_at K n ≡ None = only_open_none K n (terms_of p) only in
    let still : value_at L n ≡ None = only_open_none L n (terms_of p) g.only_open in
    gives_agree m L K p n v (sym later.as_many) (agree_back K L (terms_of p) (one_agrees K L later.has_all n none still (terms_of p) only)) g

-- another point's step leaves it what it gives
pub gives_after : (m : Model) (K : Partial) (p : Point) (n k : ℕ) (v u : Value) → (n ≡ k → ⊥)
    → IsOpen K k → Gives m K p n v → Gives m (give K k u) p n v
gives_after m K p n k v u other none g =
    later_gives m K (give K k u) p n v (given_later K k u none) (still_open K k n u other (only_open_none K n (terms_of p) g.only_open)) g

-- and it gives its variable one value
pub step_value : (m : Model) (K : Partial) (p : Point) (n : ℕ) (v u : Value) → PointFits m p
    → Gives m K p n v → Gives m K p n u → v ≡ u
step_value m K p n v u fits g h =
    let kinds : Some (kind_of v) ≡ Some (kind_of u) = sym g.of_kind ∙ h.of_kind in
    let same : kind_of u ≡ kind_of v = cc in
    only_value m K p n v u fits g same h.then_holds
