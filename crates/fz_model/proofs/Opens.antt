-- Which scalars have no value, as more of them come; and what that says of a constraint.
use Rattle.std.proofs.Common.{◌≡◌, ℕ, zero, suc, ◌+◌, ◌≤◌, true, cond, List, [], ◌∷◌, ◌++◌, drop, flat_map, length, map, Option, Some, None, is_none, is_some, slice_get, refl, sym, ap, subst, ◌∙◌, arith}
use Rattle.std.proofs.lemmas.List.{append-nil as nothing_more, drop_all, drop_more}
use Rattle.std.proofs.lemmas.List.Elements.{Contains-append_left, Contains-append_right}
use Rattle.std.specs.List.{Contains}
use Rattle.std.proofs.lemmas.Option.{get_or_from_slice_get, slice_get_within}
use Rattle.fz_builtins.specs.of_meaning.of_base.declared.value.Value.{Value}
use Rattle.fz_builtins.specs.of_meaning.declared.term.Term.{Term}
use Rattle.fz_builtins.specs.of_meaning.declared.term.Term.TheVariants.{Var}
use Rattle.fz_builtins.specs.of_meaning.Meaning.{Model, Partial, Posted, terms_in, value_at}
use Rattle.fz_builtins.specs.of_meaning.States.{terms_at_argument}
use Rattle.fz_builtins.specs.of_meaning.Meaning.Point.{ConstraintPoint}
use Rattle.fz_builtins.specs.of_meaning.Steps.{Gives, open_terms}
use Rattle.fz_builtins.proofs.of_meaning.Steps.{filter-append, is_open, only_open_none}
use Rattle.fz_builtins.specs.of_store.declared.Slot.{Slot}
use Rattle.fz_builtins.specs.of_store.Slots.{slot_term}
use Rattle.fz_model.specs.declared.only.Spot.{Spot}
use Rattle.fz_model.specs.declared.only.Open.TheVariants.{Nothing, Other}
use Rattle.fz_model.specs.declared.only.Opening.TheVariants.{Never, Waits}
use Rattle.fz_model.specs.Openings.{AreOpen, HasEach, IsMore, IsOpening}

-- ---- lists

-- the first of a list is in it
first_of : {A : Type 0} (x : A) (xs : List A) → Contains (x ∷ xs) x
first_of x xs = (0, omega arith, refl)

-- the only one of a list
pub alone : {A : Type 0} (t u : A) (j : ℕ) → slice_get (t ∷ []) j ≡ Some u → t ≡ u
alone t u zero e = cc
alone t u (suc j) e = cc

-- those in the middle are more than the variable alone
more_around : (n : ℕ) (xs ys zs : List Term) → IsMore n ys → IsMore n (xs ++ (ys ++ zs))
more_around n [] [] zs more = absurd (more.0 refl)
more_around n [] (y ∷ []) zs more =
    ((λ e. cc), (λ e. let same : y ≡ Var n = cc in more.1 (ap (λ t. t ∷ []) same)))
more_around n [] (y ∷ t ∷ ys) zs more = ((λ e. cc), (λ e. cc))
more_around n (x ∷ xs) ys zs more = (
  (λ e. cc),
  (λ e. let rest : xs ++ (ys ++ zs) ≡ [] = cc in (more_around n xs ys zs more).0 rest),
)

-- ---- as more of them come: those of a list are what was found and those of the rest

abbrev pub front : {A : Type 0} → ℕ → Option A → List Term
front n None = []
front n (Some x) = Var n ∷ []

abbrev pub SoFar : {A : Type 0} → Partial → ℕ → List Term → List Term → Option A → Type 0
SoFar K n whole rest found = (L : Partial) → HasEach K L
    → open_terms L whole ≡ open_terms L (front n found) ++ open_terms L rest

-- view gives the scalars of a list of parts, here those of one part, the next one
module _ {A X : Type 0} (K : Partial) (n : ℕ) (view : List X → List Term) (here : X → List Term) (splits : (x : X) (xs : List X) → view (x ∷ xs) ≡ here x ++ view xs) (xs : List X) (i : ℕ) (x : X) (at : slice_get xs i ≡ Some x) (found : Option A) (seen : SoFar K n (view xs) (view (drop i xs)) found) where
  abbrev rest : List Term
  rest = view (drop (i + 1) xs)

  parts : (L : Partial) → HasEach K L → open_terms L (view xs)
      ≡ open_terms L (front n found) ++ (open_terms L (here x) ++ open_terms L rest)
  parts L later =
      let first : drop i xs ≡ x ∷ drop (i + 1) xs = drop_more xs i x (slice_get_within xs i x at) ∙ ap (λ z. z ∷ drop (i + 1) xs) (get_or_from_slice_get xs i x x at) in
      seen L later ∙ ap (λ us. open_terms L (front n found) ++ us) (ap (λ ys. open_terms L (view ys)) first ∙ ap (open_terms L) (splits x (drop (i + 1) xs)) ∙ filter-append (is_open L) (here x) rest)

  pub goes_on : AreOpen K n (here x) Nothing → SoFar K n (view xs) rest found
  goes_on closed = λ L later. parts L later ∙ ap (λ us. open_terms L (front n found) ++ (us ++ open_terms L rest)) (closed L later)

  module _ (one : (L : Partial) → HasEach K L → open_terms L (here x) ≡ open_terms L (Var n ∷ [])) where
    pub finds : (y : A) → found ≡ None → SoFar K n (view xs) rest (Some y)
    finds y none = λ L later. parts L later ∙ (λ j. open_terms L (front n (none j)) ++ (one L later j ++ open_terms L rest))

    pub finds_twice : (y : A) → found ≡ Some y → value_at K n ≡ None
        → AreOpen K n (view xs) (Other n)
    finds_twice y some unset = (
      unset,
      λ L later none.
          let two : open_terms L (view xs) ≡ Var n ∷ Var n ∷ open_terms L rest = parts L later ∙ (λ j. open_terms L (front n (some j)) ++ (one L later j ++ open_terms L rest)) ∙ (λ j. cond (is_none (none j)) (Var n ∷ []) [] ++ (cond (is_none (none j)) (Var n ∷ []) [] ++ open_terms L rest)) in
          ((λ e. cc), (λ e. cc)),
      subst (λ ts. Contains ts (Var n))
          (sym (parts K (λ k v e. e) ∙ (λ j. open_terms K (front n (some j)) ++ (one K (λ k v e. e) j ++ open_terms K rest)) ∙ (λ j. cond (is_none (unset j)) (Var n ∷ []) [] ++ (cond (is_none (unset j)) (Var n ∷ []) [] ++ open_terms K rest))))
          (Contains-append_left (Var n ∷ []) (Var n ∷ open_terms K rest) (Var n) (first_of (Var n) [])),
    )

  pub has_other : (a : ℕ) → AreOpen K n (here x) (Other a) → AreOpen K n (view xs) (Other a)
  has_other a (unset, more, among) = (
    unset,
    λ L later none. subst (IsMore n) (sym (parts L later)) (more_around n (open_terms L (front n found)) (open_terms L (here x)) (open_terms L rest) (more L later none)),
    subst (λ ts. Contains ts (Var a)) (sym (parts K (λ k v e. e)))
        (Contains-append_right (open_terms K (front n found)) (open_terms K (here x) ++ open_terms K rest) (Var a)
        (Contains-append_left (open_terms K (here x)) (open_terms K rest) (Var a) among)),
  )

-- at the end
pub ends : {A X : Type 0} (K : Partial) (n : ℕ) (view : List X → List Term) (xs : List X) (i : ℕ)
    (found : Option A) → view [] ≡ [] → length xs ≤ i → SoFar K n (view xs) (view (drop i xs)) found
    → (L : Partial) → HasEach K L → open_terms L (view xs) ≡ open_terms L (front n found)
ends K n view xs i found nil past seen L later =
    seen L later ∙ ap (λ us. open_terms L (front n found) ++ us) (ap (λ ys. open_terms L (view ys)) (drop_all i xs past) ∙ ap (open_terms L) nil) ∙ nothing_more (open_terms L (front n found))

-- ---- where the variable is, which has no value

abbrev pub StandsAmong : Partial → ℕ → List Slot → ℕ → Type 0
StandsAmong K n ss i = (value_at K n ≡ None)
    × ((cs : List Value) → slice_get (map (slot_term cs) ss) i ≡ Some (Var n))

abbrev pub StandsIn : Partial → ℕ → Posted → Spot → Type 0
StandsIn K n p s = (value_at K n ≡ None) × (s.variable ≡ n)
    × (slice_get (terms_at_argument p.arguments s.argument) s.place ≡ Some (Var n))

-- ---- of a constraint

abbrev pub scalars : Posted → List Term
scalars p = flat_map terms_in p.arguments

module _ (K : Partial) (p : Posted) (n : ℕ) (target : p.target ≡ Some n) where
  only_target : (m : Model) (k : ℕ) (L : Partial) (j : ℕ) (v : Value)
      → Gives m L (ConstraintPoint k p) j v → open_terms L (scalars p) ≡ Var n ∷ []
  only_target m k L j v g = let both : Some j ≡ Some n = sym g.target.0 ∙ target in let same : j ≡ n = cc in subst (λ i. open_terms L (scalars p) ≡ Var i ∷ []) same g.only_open

  pub never_set : is_some (value_at K n) ≡ true → IsOpening K p Never
  never_set some = λ m k L later j v g.
      let none = only_open_none L n (scalars p) (only_target m k L j v g) in
      (elim (value_at K n) as (λ o. value_at K n ≡ o → is_some o ≡ true → ⊥) [
        | None ↦ λ _ e. cc
        | Some w ↦ λ e _. let set : value_at L n ≡ Some w = later n w e in cc
      ]) refl some

  pub never_there : AreOpen K n (scalars p) Nothing → IsOpening K p Never
  never_there closed = λ m k L later j v g.
      let none : Var n ∷ [] ≡ [] = sym (only_target m k L j v g) ∙ closed L later in
      cc

  pub waits_for : (a : ℕ) → AreOpen K n (scalars p) (Other a) → IsOpening K p (Waits a)
  waits_for a (unset, more, among) = (unset, λ m k L later none j v g. (more L later none).1 (only_target m k L j v g), among)
