-- What the sources of values mean, where the steps are those of a filling.
use Rattle.std.proofs.Common.{◌≡◌, ◌<◌, ℕ, inl, inr, true, false, cond, is_some, List, [], ◌∷◌, ◌++◌, ◌==◌, length, None, Some, refl, sym, ap, subst, subst₂, ◌∙◌, arith}
use Rattle.std.specs.Option.{option_map_or}
use Rattle.std.proofs.lemmas.Bool.{cases_eq, eqb-false, eqb-true}
use Rattle.std.proofs.lemmas.List.{append_assoc}
use Rattle.fz_store.specs.of_meaning.of_base.declared.value.Value.{Value}
use Rattle.fz_filling.specs.of_model.Meaning.{Model, Partial, value_at}
use Rattle.fz_filling.specs.of_model.Steps.{give}
use Rattle.fz_filling.proofs.of_model.Gaps.{value_at_new}
use Rattle.fz_filling.proofs.of_model.Steps.{value_at_other}
use Rattle.fz_filling.proofs.of_model.Tabled.{has_place}
use Rattle.fz_filling.specs.declared.completion.Completion.{Completion}
use Rattle.fz_filling.specs.Filling.{Run}
use Rattle.fz_filling.specs.Filling.Run.{Goes, Stays}
use Rattle.fz_filling.proofs.Running.{given_unset, length_given, run_grows, run_length}
use Rattle.fz_explain.specs.Sources.{IsGivenBefore, IsTrueSource, SourcesAreEarlier, giver_of, source_of}
use Rattle.fz_explain.specs.declared.source.Source.TheVariants.{Given, Nothing, Printed}

-- ---- the step that gave a variable its value

giver_here : (n k : ℕ) (steps : List (ℕ × ℕ)) (j : ℕ) → n ≡ j
    → giver_of ((n, k) ∷ steps) j ≡ Some k
giver_here n k steps j same = (elim (n == j)
    as (λ b. (n == j) ≡ b → cond b (Some k) (giver_of steps j) ≡ Some k) [
      | true ↦ λ _. refl
      | false ↦ λ e. absurd (eqb-false n j e same)
    ]) refl

giver_other : (n k : ℕ) (steps : List (ℕ × ℕ)) (j : ℕ) → (n ≡ j → ⊥)
    → giver_of ((n, k) ∷ steps) j ≡ giver_of steps j
giver_other n k steps j other = (elim (n == j)
    as (λ b. (n == j) ≡ b → cond b (Some k) (giver_of steps j) ≡ giver_of steps j) [
      | true ↦ λ e. absurd (other (eqb-true n j e))
      | false ↦ λ _. refl
    ]) refl

giver_joined : (steps more : List (ℕ × ℕ)) (j : ℕ) → giver_of more j ≡ None
    → giver_of (steps ++ more) j ≡ giver_of steps j
giver_joined [] more j none = none
giver_joined (s ∷ steps) more j none =
    ap (cond (s.0 == j) (Some s.1)) (giver_joined steps more j none)

source_at : (F : Partial) (steps : List (ℕ × ℕ)) (n : ℕ) (v : Value) → value_at F n ≡ Some v
    → source_of F steps n ≡ option_map_or (λ k. Given k) (giver_of steps n) Printed
source_at F steps n v at = ap (λ o. option_map_or
    (λ (_ : Value). option_map_or (λ k. Given k) (giver_of steps n) Printed) o Nothing) at

-- ---- what the steps of a filling say of values

-- a variable that has a value gets none
none_given : (c : Completion) (m : Model) {K F : Partial} {steps : List (ℕ × ℕ)}
    → Run c m K F steps → (j : ℕ) (w : Value) → value_at K j ≡ Some w → giver_of steps j ≡ None
none_given c m Stays j w e = refl
none_given c m (Goes {K = K} {n = n} {steps = steps} k v p at gives rest) j w e =
    let other : n ≡ j → ⊥ = λ same.
    let none : value_at K j ≡ None = ap (value_at K) (sym same) ∙ given_unset c m K p n v gives in cc in
    giver_other n k steps j other
    ∙ none_given c m rest j w (value_at_other K n j v (λ same. other (sym same)) ∙ e)

-- where no step gave the value, it is one of the first
not_given : (c : Completion) (m : Model) {K F : Partial} {steps : List (ℕ × ℕ)}
    → Run c m K F steps → (n : ℕ) (v : Value) → value_at F n ≡ Some v → giver_of steps n ≡ None
    → value_at K n ≡ Some v
not_given c m Stays n v at none = at
not_given c m (Goes {K = K} {n = x} {steps = steps} j u p is gives rest) n v at none =
    let other : x ≡ n → ⊥ = λ same.
    let some : None ≡ Some j = sym none ∙ giver_here x j steps n same in cc in
    sym (value_at_other K x n u (λ same. other (sym same)))
    ∙ not_given c m rest n v at (sym (giver_other x j steps n other) ∙ none)

-- the value that is given stays
given_stays : (c : Completion) (m : Model) (K F : Partial) (steps : List (ℕ × ℕ)) (n : ℕ)
    (u v : Value) → Run c m (give K n u) F steps → value_at F n ≡ Some v → u ≡ v
given_stays c m K F steps n u v taken at =
    let less : n < length F = has_place F n (ap is_some at) in
    let long = run_length c m taken in
    let given = length_given K n u in
    let set = value_at_new K n u (omega (arith, less, long, given)) in
    let grown : value_at F n ≡ Some u = run_grows c m taken n u set in cc

found : (c : Completion) (m : Model) (F : Partial) (all : List (ℕ × ℕ)) {K : Partial}
    {steps : List (ℕ × ℕ)} → Run c m K F steps → (before : List (ℕ × ℕ))
    → all ≡ before ++ steps → (n k : ℕ) (v : Value) → value_at F n ≡ Some v
    → giver_of steps n ≡ Some k → IsGivenBefore c m F all n k v
found c m F all Stays before are n k v at given = cc
found c m F all (Goes {K = K} {n = x} {steps = steps} j u p is gives rest) before are
    n k v at given = elim (cases_eq x n) [
      | inl same ↦
          let number : j ≡ k = (
          let both : Some j ≡ Some k = sym (giver_here x j steps n same) ∙ given in cc) in
          let value : u ≡ v = given_stays c m K F steps x u v rest (ap (value_at F) same ∙ at) in
          let whole : Run c m K F ((x, j) ∷ steps) = Goes j u p is gives rest in
          let here : IsGivenBefore c m F all x j u = record {
            before = before;
            after = steps;
            order = are;
            point = p;
            at = is;
            values = K;
            gives = gives;
            earlier = λ i w has.
                let later : value_at F i ≡ Some w = run_grows c m whole i w has in
                let none : giver_of ((x, j) ∷ steps) i ≡ None = none_given c m whole i w has in
                let giver : giver_of all i ≡ giver_of before i = ap (λ ss. giver_of ss i) are
                ∙ giver_joined before ((x, j) ∷ steps) i none in (
                  later,
                  source_at F all i w later
                      ∙ ap (λ o. option_map_or (λ k. Given k) o Printed) giver
                      ∙ sym (source_at K before i w has),
                );
          } in
          subst (λ i. IsGivenBefore c m F all i k v) same
          (subst₂ (λ i w. IsGivenBefore c m F all x i w) number value here)
      | inr other ↦ found c m F all rest (before ++ (x, j) ∷ [])
          (are ∙ sym (append_assoc before ((x, j) ∷ []) steps))
          n k v at (sym (giver_other x j steps n other) ∙ given)
    ]

pub are_earlier : SourcesAreEarlier
are_earlier c m K F steps are n v at =
    subst (IsTrueSource c m K F steps n v) (sym (source_at F steps n v at)) ((elim (giver_of steps n)
    as (λ o. giver_of steps n ≡ o
    → IsTrueSource c m K F steps n v (option_map_or (λ k. Given k) o Printed)) [
      | None ↦ λ none. not_given c m are n v at none
      | Some k ↦ λ given. found c m F steps are [] refl n k v at given
    ]) refl)
