-- What the states of a point say of it: where the state is that it holds, the point holds; and what
-- fails has the values that show it.
use Rattle.std.proofs.Common.{◌≡◌, Bool, true, false, not, cond, ◌||◌, List, [], ◌∷◌, Option, Some, None, refl, sym, subst, IsTrue, IsSomeAnd, arith}
use Rattle.std.specs.List.{AllByRecursion, list_any}
use Rattle.std.specs.Option.{option_map_or}
use Rattle.std.proofs.lemmas.Grind.{common_steps}
use Rattle.fz_base.specs.declared.value.Value.{Value}
use Rattle.fz_meaning.specs.declared.state.State.TheVariants.{Holds, Fails}
use Rattle.fz_meaning.specs.Builtins.{Row, ArgValue}
use Rattle.fz_meaning.specs.Meaning.{Argument, Point, Partial, value, values, row_holds, inside, HoldsUnder}
use Rattle.fz_meaning.specs.States.{state, judged, judged_by, both, state_of_values, is_outside}
use Rattle.fz_meaning.specs.declared.term.Term.{Term}
use Rattle.fz_meaning.specs.declared.term.Domain.{Domain}
use Rattle.fz_meaning.proofs.Values.{no', same_value_is}
use Rattle.fz_meaning.proofs.Steps.{option_cons_parts}

pub intro : {A : Type 0} (P : A → Type 0) (o : Option A) (x : A) → o ≡ Some x → P x → IsSomeAnd o P
intro P o x e h = subst (λ p. IsSomeAnd p P) (sym e) h

-- ---- judged by a value

pub judged_true : (b : Bool) → judged b ≡ Holds → b ≡ true
judged_true true e = refl
judged_true false e = cc

pub judged_false : (b : Bool) → judged b ≡ Fails → b ≡ false
judged_false true e = cc
judged_false false e = refl

pub judged_holds : {A : Type 0} (t : A → Bool) (o : Option A) → judged_by t o ≡ Holds
    → (a : A) × (o ≡ Some a) × (t a ≡ true)
judged_holds t None e = cc
judged_holds t (Some a) e = (a, refl, judged_true (t a) e)

pub judged_fails : {A : Type 0} (t : A → Bool) (o : Option A) → judged_by t o ≡ Fails
    → (a : A) × (o ≡ Some a) × (t a ≡ false)
judged_fails t None e = cc
judged_fails t (Some a) e = (a, refl, judged_false (t a) e)

pub both_some : (o p : Option Value) (x : Value × Value) → both o p ≡ Some x
    → (o ≡ Some x.0) × (p ≡ Some x.1)
both_some o p x e = grind (arith, common_steps)

-- ---- the arguments of a constraint

pub row_state_holds : (K : Partial) (xs : List Argument) (r : Row) (o : Option (List ArgValue))
    → state_of_values K xs r o ≡ Holds
    → (vs : List ArgValue) × (o ≡ Some vs) × (row_holds r vs ≡ true)
row_state_holds K xs r o e = grind (arith, common_steps, judged_true)

pub row_state_fails : (K : Partial) (xs : List Argument) (r : Row) (o : Option (List ArgValue))
    → state_of_values K xs r o ≡ Fails
    → (vs : List ArgValue) × (o ≡ Some vs) × (row_holds r vs ≡ false)
row_state_fails K xs r o e = grind (arith, common_steps, judged_false)

-- ---- the elements of an array

array_holds : (b : Bool) (o : Option (List Value)) → cond b Fails (judged_by (λ vs. true) o) ≡ Holds
    → (b ≡ false) × ((vs : List Value) × (o ≡ Some vs))
array_holds b o e = grind (arith, common_steps)

neither_of : (b c : Bool) → (not b || c) ≡ false → (b ≡ true) × (c ≡ false)
neither_of true c e = (refl, e)
neither_of false c e = no' e

each_inside : (K : Partial) (d : Domain) (ts : List Term) (vs : List Value)
    → list_any (is_outside K d) ts ≡ false → values K ts ≡ Some vs
    → AllByRecursion (λ v. IsTrue (inside d v)) vs
each_inside K d [] vs none e = let nil : [] ≡ vs = cc in subst (AllByRecursion (λ v. IsTrue (inside d v))) nil tt
each_inside K d (t ∷ ts) vs none e =
    let (v, ws, is, are, cons) = option_cons_parts (value K t) (values K ts) vs e in
    let none' : (not (inside d v) || list_any (is_outside K d) ts) ≡ false = subst (λ o. (option_map_or (λ v. not (inside d v)) o false || list_any (is_outside K d) ts) ≡ false) is none in
    let (first, others) = neither_of (inside d v) (list_any (is_outside K d) ts) none' in
    subst (AllByRecursion (λ v. IsTrue (inside d v))) (sym cons) (first, each_inside K d ts ws others are)

-- ---- a point whose state is that it holds

pub point_holds : (K : Partial) (p : Point) → state K p ≡ Holds → HoldsUnder K p
point_holds K p s =
    grind (
      arith,
      common_steps,
      judged_holds,
      intro,
      both_some,
      same_value_is,
      array_holds,
      each_inside,
      row_state_holds,
    )
