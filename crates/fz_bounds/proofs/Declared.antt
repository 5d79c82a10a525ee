-- Domains, definitions and arrays that hold under no assignment.
use Rattle.std.proofs.Common.{◌≡◌, ℕ, zero, suc, ℤ, ◌≤ℤ◌, true, false, List, [], ◌∷◌, Option, None, Some, refl, sym, ap, subst, ◌∙◌, slice_get, IfSome, IsSomeAnd, IsTrue}
use Rattle.std.proofs.lemmas.Option.{same_Some}
use Rattle.std.specs.FinSet.{contains}
use Rattle.std.specs.List.{AllByRecursion}
use Rattle.fz_model.specs.of_base.Sets.{NumberSet}
use Rattle.fz_model.specs.of_base.Elements.{LiesWithin}
use Rattle.fz_model.specs.of_base.declared.value.Value.{Value}
use Rattle.fz_model.specs.declared.Kind.{Kind}
use Rattle.fz_model.specs.declared.Kind.TheVariants.{Int as IntKind, Bool as BoolKind, Set as SetKind}
use Rattle.fz_model.specs.declared.Domain.{Domain}
use Rattle.fz_model.specs.declared.Term.{Term}
use Rattle.fz_model.specs.declared.Term.TheVariants.{Fixed, Var}
use Rattle.fz_model.specs.Meaning.{Assignment, Partial, Variable, admits, inside, value, value_at, values, whole}
use Rattle.fz_model.specs.Meaning.Point.{ArrayPoint, DefinitionPoint, DomainPoint}
use Rattle.fz_model.proofs.States.{intro}
use Rattle.fz_model.proofs.Steps.{option_cons_parts, some_of}
use Rattle.fz_model.proofs.Values.{no'}
use Rattle.fz_bounds.specs.Bounds.{IsInside, NeverHolds, Ranges, is_at_most, number_as}
use Rattle.fz_bounds.specs.Ends.{AreEnds, AreEndsAt, LiesAt}
use Rattle.fz_bounds.specs.declared.ends.KindEnds.{KindEnds}
use Rattle.fz_bounds.proofs.Inside.{at_most_itself}
use Rattle.fz_bounds.proofs.Numbers.{number_between, value_between}

-- a number outside the range that a set lies in
pub not_within : (s : NumberSet) (lo hi n : ℤ) → LiesWithin lo hi s → (lo ≤ℤ n → n ≤ℤ hi → ⊥)
    → contains s n ≡ false
not_within s lo hi n lies out =
    (elim (contains s n) as (λ b. contains s n ≡ b → b ≡ false) [
      | true ↦ λ e. let (low, high) = lies n e in absurd (out low high)
      | false ↦ λ _. refl
    ]) refl

pub domain_never : (B : Ranges) (x : Variable) (n : ℕ)
    → ((A : Assignment) → IsInside B A → (v : Value) → value_at (whole A) n ≡ Some v → inside x.domain v ≡ false)
    → NeverHolds B (DomainPoint x n)
domain_never B x n h A inside' holds =
    let (v, is, lies) = some_of (λ v. IsTrue (inside x.domain v)) (value_at (whole A) n) holds in
    no' (sym lies ∙ h A inside' v is)

pub definition_never : (B : Ranges) (x : Variable) (n : ℕ) (t : Term) (e f : KindEnds)
    → LiesAt B (Var n) e → LiesAt B t f
    → ((a b : ℤ) → e.low ≤ℤ a → a ≤ℤ e.high → f.low ≤ℤ b → b ≤ℤ f.high → number_as e.kind a ≡ number_as f.kind b → ⊥)
    → NeverHolds B (DefinitionPoint x n t)
definition_never B x n t e f one other apart A inside' holds =
    let (a, is, low, high) = one A inside' in
    let (b, are, least, most) = other A inside' in
    let (v, is_v, rest) = some_of (λ v. IsSomeAnd (value (whole A) t) (λ w. v ≡ w)) (value_at (whole A) n) holds in
    let (w, is_w, same) = some_of (λ w. v ≡ w) (value (whole A) t) rest in
    apart a b low high least most (same_Some (number_as e.kind a) v (sym is ∙ is_v) ∙ same ∙ sym (same_Some (number_as f.kind b) w (sym are ∙ is_w)))

module _ (K : Partial) (d : Domain) where
  abbrev all_inside : List Term → Type 0
  all_inside ts = IsSomeAnd (values K ts) (λ vs. AllByRecursion (λ v. IsTrue (inside d v)) vs)

  -- the first element and the others
  first_inside : (s : Term) (ts : List Term) → all_inside (s ∷ ts)
      → ((v : Value) × (value K s ≡ Some v) × IsTrue (inside d v)) × all_inside ts
  first_inside s ts h =
      let (vs, are, all) = some_of (AllByRecursion (λ v. IsTrue (inside d v))) (values K (s ∷ ts)) h in
      let (v, ws, is, rest, cons) = option_cons_parts (value K s) (values K ts) vs are in
      let both : AllByRecursion (λ v. IsTrue (inside d v)) (v ∷ ws) = subst (AllByRecursion (λ v. IsTrue (inside d v))) cons all in
      ((v, is, both.0), intro (AllByRecursion (λ v. IsTrue (inside d v))) (values K ts) ws rest both.1)

  one_outside : (ts : List Term) (i : ℕ) (t : Term) → slice_get ts i ≡ Some t
      → ((v : Value) → value K t ≡ Some v → inside d v ≡ false) → all_inside ts → ⊥
  one_outside [] i t at out h = cc
  one_outside (s ∷ ts) zero t at out h =
      let ((v, is, lies), _) = first_inside s ts h in
      no' (sym lies ∙ out v (subst (λ u. value K u ≡ Some v) (same_Some s t at) is))
  one_outside (s ∷ ts) (suc i) t at out h =
      let (_, rest) = first_inside s ts h in one_outside ts i t at out rest

pub elements_never : (B : Ranges) (name : List ℕ) (d : Domain) (ts : List Term) (i : ℕ) (t : Term)
    → slice_get ts i ≡ Some t
    → ((A : Assignment) → IsInside B A → (v : Value) → value (whole A) t ≡ Some v → inside d v ≡ false)
    → NeverHolds B (ArrayPoint name d ts)
elements_never B name d ts i t at out A inside' holds =
    one_outside (whole A) d ts i t at (out A inside') holds

-- ---- bounds of scalars

pub if_some : {A : Type 0} (P Q : A → Type 0) (o : Option A) → ((x : A) → P x → Q x) → IfSome o P
    → IfSome o Q
if_some P Q None f h = tt
if_some P Q (Some x) f h = f x h

pub variable_at : (B : Ranges) (n : ℕ) (e : KindEnds) → AreEndsAt B n e → LiesAt B (Var n) e
variable_at B n e at A inside' = value_between B n e at A inside'

pub fixed_at : (B : Ranges) (v : Value) (e : KindEnds) → AreEnds v v e → LiesAt B (Fixed v) e
fixed_at B v e at A inside' = number_between e.low e.high e.kind (Some v) at.low_told at.high_told
    (subst (λ z. is_at_most z v ≡ true) at.low_is (at_most_itself v), subst (λ z. is_at_most v z ≡ true) at.high_is (at_most_itself v))

pub not_admitted : (d : Domain) (k : Kind) (a : ℤ) (v : Value) → k ≡ IntKind → v ≡ number_as k a
    → admits d a ≡ false → inside d v ≡ false
not_admitted d IntKind a v e is out = ap (inside d) is ∙ out
not_admitted d BoolKind a v e is out = cc
not_admitted d SetKind a v e is out = ap (inside d) is ∙ out
