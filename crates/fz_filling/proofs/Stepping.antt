-- The first step of a chain, and the end where each variable has a value.
use Rattle.std.proofs.Common.{◌≡◌, ℕ, zero, suc, ◌+◌, ◌<◌, ◌≤◌, inl, inr, List, [], ◌∷◌, length, Option, Some, None, slice_get, IfSome, refl, sym, subst, arith}
use Rattle.std.specs.List.{AllByRecursion}
use Rattle.std.proofs.lemmas.Bool.{cases_lt}
use Rattle.std.proofs.lemmas.Option.{slice_get_within}
use borrow.Author.Count.{below_more}
use Rattle.fz_index.specs.of_model.of_base.declared.value.Value.{Value}
use Rattle.fz_index.specs.of_model.Meaning.{Model, Point, Partial, value_at, points, IsPartial}
use Rattle.fz_index.specs.of_model.Partial.{unset_count}
use Rattle.fz_index.specs.of_model.Aimed.{GivesNone, aimed}
use Rattle.fz_index.specs.of_model.Steps.{GivesNothing, terms_of}
use Rattle.fz_index.specs.of_model.Relations.{kind_of}
use Rattle.fz_index.proofs.of_model.Lists.{there_is}
use Rattle.fz_index.proofs.of_model.Partials.{has_place}
use Rattle.fz_index.proofs.of_model.Steps.{only_open_none}
use Rattle.fz_filling.specs.Filling.{IsFirstStep}
use Rattle.fz_filling.specs.declared.completion.Completion.TheVariants.{Off}
use Rattle.fz_filling.specs.Stepping.{GivesNoneAt, IsStepAhead, NoneGives}

-- ---- the points from a number up to another

-- one more point gives nothing
pub none_and_one : (m : Model) (K : Partial) (from k : ℕ) → NoneGives m K from k
    → GivesNoneAt Off m K k → NoneGives m K from (k + 1)
none_and_one m K from k before here j p above below at =
    below_more (λ i. from ≤ i → (q : Point) → slice_get (points m) i ≡ Some q → GivesNothing m K q) k
    (λ i l up q at'. before i q up l at') (λ _ q at'. here q at') j below above p at

-- a step from the number on up to the last point is the first one
pub ahead_is_first : (m : Model) (K : Partial) (from to k n : ℕ) (v : Value)
    → to ≡ length (points m) → IsStepAhead m K from to k n v → IsFirstStep m K from k n v
ahead_is_first m K from to k n v all s =
    let within : k < length (points m) = subst (λ z. k < z) all s.below in
    let ahead : from ≤ k = s.ahead in
    let (p, at) = there_is (points m) k within in
    record {
      point = p;
      at = at;
      none_passed = λ j q passed there. elim passed [
        | inl h ↦ s.none_before j q h.0 h.1 there
        | inr h ↦ absurd (omega (arith, h.0, ahead))
      ];
      gives = s.gives p at;
    }

-- and where there is none, one before the number is
pub wrapped_is_first : (m : Model) (K : Partial) (from to k n : ℕ) (v : Value)
    → to ≡ length (points m) → from ≤ length (points m) → NoneGives m K from to
    → IsStepAhead m K 0 from k n v → IsFirstStep m K from k n v
wrapped_is_first m K from to k n v all inside none s =
    let below : k < from = s.below in
    let within : k < length (points m) = omega arith in
    let (p, at) = there_is (points m) k within in
    record {
      point = p;
      at = at;
      none_passed = λ j q passed there. elim passed [
        | inl h ↦ absurd (omega (arith, h.0, h.1, below))
        | inr h ↦ elim h.1 [
          | inl above ↦ none j q above (subst (λ z. j < z) (sym all) (slice_get_within (points m) j q there)) there
          | inr under ↦ s.none_before j q (omega arith) under there
        ]
      ];
      gives = s.gives p at;
    }

pub at_each : (P : Point → Type 0) (ps : List Point)
    → ((k : ℕ) (p : Point) → slice_get ps k ≡ Some p → P p) → AllByRecursion P ps
at_each P [] h = tt
at_each P (p ∷ ps) h = (h 0 p refl, at_each P ps (λ k q at. h (suc k) q at))

-- where there is none from the number on and none before it, no point gives a step
pub no_first : (m : Model) (K : Partial) (from to : ℕ) → to ≡ length (points m)
    → NoneGives m K from to → NoneGives m K 0 from → AllByRecursion (GivesNothing m K) (points m)
no_first m K from to all after before = at_each (GivesNothing m K) (points m) (λ j p at.
    let short : j < length (points m) = slice_get_within (points m) j p at in
    elim (cases_lt j from) [ inl l ↦ before j p (omega arith) l at | inr l ↦ after j p l (subst (λ z. j < z) (sym all) short) at ])

-- ---- variables without a value

all_set : (K : Partial) (n : ℕ) → n < length K → value_at K n ≡ None → unset_count K ≡ 0 → ⊥
all_set [] n h e none = omega arith
all_set (None ∷ K) n h e none = cc
all_set (Some u ∷ K) zero h e none = cc
all_set (Some u ∷ K) (suc n) h e none = all_set K n (omega arith) e none

-- where each variable has a value, no point gives a step
gives_nothing : (m : Model) (K : Partial) → IsPartial m K → unset_count K ≡ 0 → (p : Point)
    → GivesNothing m K p
gives_nothing m K fits none p n v g = all_set K n (has_place m K n (kind_of v) fits g.of_kind) (only_open_none K n (terms_of p) g.only_open) none

pub nothing_left : (m : Model) (K : Partial) → IsPartial m K → unset_count K ≡ 0
    → AllByRecursion (GivesNothing m K) (points m)
nothing_left m K fits none = at_each (GivesNothing m K) (points m) (λ k p at. gives_nothing m K fits none p)

-- nor by whichever result
pub none_left : (m : Model) (K : Partial) → IsPartial m K → unset_count K ≡ 0
    → AllByRecursion (GivesNone m K) (points m)
none_left m K fits none = at_each (GivesNone m K) (points m) (λ k p at n v. gives_nothing m K fits none (aimed n p) n v)

pub at_some : {A : Type 0} (P : A → Type 0) (o : Option A) (x : A) → o ≡ Some x → IfSome o P → P x
at_some P o x e h = subst (λ p. IfSome p P) e h

-- the point of a number, and what it gives
pub point_gives : (m : Model) (P : Point → ℕ → Value → Type 0) (k n : ℕ) (v : Value)
    (o : Option (ℕ × Value)) (all : ℕ) → o ≡ Some (n, v) → all ≡ length (points m) → k < all
    → IfSome o (λ r. (p : Point) → slice_get (points m) k ≡ Some p → P p r.0 r.1) → (p : Point) × (slice_get (points m) k ≡ Some p) × P p n v
point_gives m P k n v o all is counted below gives = let (p, at) = there_is (points m) k (omega arith) in (p, at, at_some _ o (n, v) is gives p at)
