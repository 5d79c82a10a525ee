-- Where one partial assignment has each value of another; and a point that fails at some values fails
-- under each assignment that has them.
use Rattle.std.proofs.Common.{◌≡◌, ℕ, zero, suc, Bool, true, false, not, ◌||◌, cond, List, [], ◌∷◌, Option, Some, None, refl, sym, ap, subst, ◌∙◌, option_and_then, option_map, slice_get, IsTrue, ◌⊎◌, inl, inr, IsSomeAnd}
use Rattle.std.specs.List.{AllByRecursion, list_any}
use Rattle.std.specs.Option.{option_map_or}
use Rattle.fz_builtins.specs.of_meaning.of_base.declared.value.Value.{Value}
use Rattle.fz_builtins.specs.of_meaning.declared.state.State.TheVariants.{Fails, Unknown}
use Rattle.fz_builtins.specs.of_meaning.declared.term.Term.{Term}
use Rattle.fz_builtins.specs.of_meaning.declared.term.Term.TheVariants.{Var, Fixed}
use Rattle.fz_builtins.specs.of_meaning.declared.term.Domain.{Domain}
use Rattle.fz_builtins.specs.of_meaning.declared.kind.Kind.{Kind}
use Rattle.fz_builtins.specs.of_meaning.Relations.{kind_of, option_cons}
use Rattle.fz_builtins.specs.of_meaning.Builtins.{ArgValue}
use Rattle.fz_builtins.specs.of_meaning.Builtins.ArgValue.{OneValue, ManyValues}
use Rattle.fz_builtins.specs.of_meaning.Meaning.{Argument, Assignment, FitVariables, Partial, Variable, Point, argument_value, argument_values, inside, row_holds, row_of, terms_in, value, value_at, values, whole}
use Rattle.fz_builtins.specs.of_meaning.Meaning.Place.{Scalar, Array}
use Rattle.fz_builtins.specs.of_meaning.Meaning.Argument.{One, ListOf}
use Rattle.fz_builtins.specs.of_meaning.Meaning.Point.{DomainPoint, DefinitionPoint, ArrayPoint, ConstraintPoint}
use Rattle.fz_builtins.specs.of_meaning.States.{HoldsIfKnown, both, is_outside, judged_by, state, state_of_row, same_value}
use Rattle.fz_builtins.proofs.of_meaning.Powers.{fails_computed, none_unknown, same_unknown, unknown_by}
use Rattle.fz_builtins.proofs.of_meaning.States.{both_some, judged_fails, row_state_fails}
use Rattle.fz_builtins.proofs.of_meaning.Steps.{map_some, option_cons_parts, some_of}
use Rattle.fz_builtins.proofs.of_meaning.Values.{no, no', value_itself}
use Rattle.fz_model.specs.Openings.{HasEach}

pub some_and : {A : Type 0} (P : A → Type 0) (o : Option A) (x : A) → IsSomeAnd o P → o ≡ Some x
    → P x
some_and P o x h e = subst (λ p. IsSomeAnd p P) e h

-- an assignment gives each variable a value of its kind
pub assigned : (xs : List Variable) (A : Assignment) (n : ℕ) (k : Kind) → FitVariables xs (whole A)
    → option_map (λ x. x.kind) (slice_get xs n) ≡ Some k
    → (w : Value) × (value_at (whole A) n ≡ Some w) × (kind_of w ≡ k)
assigned [] A n k h e = cc
assigned (x ∷ xs) [] n k h e = absurd h
assigned (x ∷ xs) (a ∷ A) zero k h e = let same : x.kind ≡ k = cc in (a, refl, h.0 ∙ same)
assigned (x ∷ xs) (a ∷ A) (suc n) k h e = assigned xs A n k h.1 e

-- ---- one partial assignment under another

module _ (K L : Partial) (under : HasEach K L) where
  pub value_under : (t : Term) (v : Value) → value K t ≡ Some v → value L t ≡ Some v
  value_under (Var n) v e = under n v e
  value_under (Fixed w) v e = e

  pub values_under : (ts : List Term) (vs : List Value) → values K ts ≡ Some vs
      → values L ts ≡ Some vs
  values_under [] vs e = e
  values_under (t ∷ ts) vs e =
      let (v, ws, is, are, cons) = option_cons_parts (value K t) (values K ts) vs e in
      (λ i. option_cons (value_under t v is i) (values_under ts ws are i)) ∙ ap Some (sym cons)

  argument_under : (x : Argument) (a : ArgValue) → argument_value K x ≡ Some a
      → argument_value L x ≡ Some a
  argument_under (One (Scalar k t)) a e = let (v, is, same) = map_some OneValue (value K t) a e in ap (option_map OneValue) (value_under t v is) ∙ ap Some same
  argument_under (One (Array name k ts)) a e = let (vs, is, same) = map_some ManyValues (values K ts) a e in ap (option_map ManyValues) (values_under ts vs is) ∙ ap Some same
  argument_under (ListOf ps) a e = let (vs, is, same) = map_some ManyValues (values K (terms_in (ListOf ps))) a e in ap (option_map ManyValues) (values_under (terms_in (ListOf ps)) vs is) ∙ ap Some same

  pub arguments_under : (xs : List Argument) (as' : List ArgValue) → argument_values K xs ≡ Some as'
      → argument_values L xs ≡ Some as'
  arguments_under [] as' e = e
  arguments_under (x ∷ xs) as' e =
      let (a, bs, is, are, cons) = option_cons_parts (argument_value K x) (argument_values K xs) as' e in
      (λ i. option_cons (argument_under x a is i) (arguments_under xs bs are i)) ∙ ap Some (sym cons)

  -- the argument at an index, where all have values
  pub argument_at_under : (xs : List Argument) (as' : List ArgValue)
      → argument_values K xs ≡ Some as' → (j : ℕ)
      → option_and_then (argument_value K) (slice_get xs j)
      ≡ option_and_then (argument_value L) (slice_get xs j)
  argument_at_under [] as' e j = refl
  argument_at_under (x ∷ xs) as' e zero =
      let (a, bs, is, are, cons) = option_cons_parts (argument_value K x) (argument_values K xs) as' e in
      is ∙ sym (argument_under x a is)
  argument_at_under (x ∷ xs) as' e (suc j) =
      let (a, bs, is, are, cons) = option_cons_parts (argument_value K x) (argument_values K xs) as' e in
      argument_at_under xs bs are j

-- ---- no point fails

pub some_same : {A : Type 0} (o : Option A) (a b : A) → o ≡ Some a → o ≡ Some b → a ≡ b
some_same o a b d e = cc

-- an element with a value that lies outside
outside_not : (F L : Partial) → HasEach F L → (d : Domain) (ts : List Term) (vs : List Value)
    → values L ts ≡ Some vs → AllByRecursion (λ v. IsTrue (inside d v)) vs
    → list_any (is_outside F d) ts ≡ true → ⊥
outside_not F L under d [] vs e h any = no any
outside_not F L under d (t ∷ ts) vs e h any =
    let (v, ws, is, are, cons) = option_cons_parts (value L t) (values L ts) vs e in
    let All : AllByRecursion (λ v. IsTrue (inside d v)) (v ∷ ws) = subst (AllByRecursion (λ v. IsTrue (inside d v))) cons h in
    (elim (value F t) as (λ o. value F t ≡ o → (option_map_or (λ v. not (inside d v)) o false || list_any (is_outside F d) ts) ≡ true → ⊥) [
      | None ↦ λ _ any. outside_not F L under d ts ws are All.1 any
      | Some u ↦ λ u_is any.
          let same : u ≡ v = some_same (value L t) u v (value_under F L under t u u_is) is in
          let Within : inside d u ≡ true = subst (λ z. inside d z ≡ true) (sym same) All.0 in
          outside_not F L under d ts ws are All.1 (subst (λ b. (not b || list_any (is_outside F d) ts) ≡ true) Within any)
    ]) refl any

pub array_not_fails : (b : Bool) (o : Option (List Value))
    → cond b Fails (judged_by (λ vs. true) o) ≡ Fails → b ≡ true
array_not_fails true o e = refl
array_not_fails false None e = cc
array_not_fails false (Some vs) e = cc

pub never_fails : (A : Assignment) (F : Partial) (p : Point) → HasEach F (whole A)
    → HoldsIfKnown (whole A) p → state F p ≡ Fails → ⊥
never_fails A F (DomainPoint x k) under h s =
    let (u, at, out) = judged_fails (inside x.domain) (value_at F k) s in
    let in' : inside x.domain u ≡ true = some_and (λ v. IsTrue (inside x.domain v)) (value_at (whole A) k) u h (under k u at) in
    no' (sym in' ∙ out)
never_fails A F (DefinitionPoint x k e) under h s =
    let (pair, at, differ) = judged_fails (λ (v, w). same_value v w) (both (value_at F k) (value F e)) s in
    let (l, r) = both_some (value_at F k) (value F e) pair at in
    let equal : pair.0 ≡ pair.1 = some_and (λ w. pair.0 ≡ w) (value (whole A) e) pair.1 (some_and (λ v. IsSomeAnd (value (whole A) e) (λ w. v ≡ w)) (value_at (whole A) k) pair.0 h (under k pair.0 l)) (value_under F (whole A) under e pair.1 r) in
    no' (sym (subst (λ z. same_value pair.0 z ≡ true) equal (value_itself pair.0)) ∙ differ)
never_fails A F (ArrayPoint name d ts) under h s =
    let (vs, are, each) = some_of (λ vs. AllByRecursion (λ v. IsTrue (inside d v)) vs) (values (whole A) ts) h in
    outside_not F (whole A) under d ts vs are each (array_not_fails (list_any (is_outside F d) ts) (values F ts) s)
never_fails A F (ConstraintPoint k p) under h s =
    (elim (row_of p) as (λ o. (state_of_row (whole A) p.arguments o ≡ Unknown) ⊎ IsSomeAnd o (λ r. IsSomeAnd (argument_values (whole A) p.arguments) (λ vs. IsTrue (row_holds r vs))) → state_of_row F p.arguments o ≡ Fails → ⊥) [
      | None ↦ λ _ s. cc
      | Some r ↦ λ h s.
          let (vs, are, fail) = row_state_fails F p.arguments r (argument_values F p.arguments) s in
          elim h [
            | inl unknown ↦
                let fit = fails_computed F p.arguments r (argument_values F p.arguments) s in
                let same = same_unknown F (whole A) p.arguments r.wide (argument_at_under F (whole A) under p.arguments vs are) in
                no' (sym (unknown_by (whole A) p.arguments r unknown) ∙ sym same ∙ none_unknown F p.arguments r fit)
            | inr h ↦
                let pass : row_holds r vs ≡ true = some_and (λ vs. IsTrue (row_holds r vs)) (argument_values (whole A) p.arguments) vs h (arguments_under F (whole A) under p.arguments vs are) in
                no' (sym pass ∙ fail)
          ]
    ]) h s
