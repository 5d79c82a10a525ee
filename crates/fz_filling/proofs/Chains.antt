-- A known-solution that extends a block agrees with each value that the filling gives.
use Rattle.std.proofs.Common.{◌≡◌, ℕ, suc, zero, ◌+◌, true, false, cond, List, [], ◌∷◌, map, Option, Some, None, refl, sym, ap, ◌∙◌, option_map, IsTrue, ◌⊎◌, inl, inr, IfSome, IsSomeAnd, arith, flat_map, ◌==◌, add-zero, zero-add, eqb-true}
use Rattle.std.specs.List.{AllByRecursion}
use Rattle.std.specs.Option.{option_map_or, option_or}
use Rattle.fz_index.specs.of_model.of_base.declared.value.Value.{Value}
use Rattle.fz_index.specs.of_model.Relations.{kind_of, option_cons}
use Rattle.fz_index.specs.of_model.Builtins.{ArgValue}
use Rattle.fz_index.specs.of_model.Builtins.ArgValue.{OneValue, ManyValues}
use Rattle.fz_index.specs.of_model.Meaning.{Place, Argument, Variable, Model, Point, Partial, Assignment, value, values, value_at, whole, terms_in, argument_value, argument_values, row_of, row_holds, points, inside, find_name, HoldsUnder, IsAssignment, variables_of}
use Rattle.fz_index.specs.of_model.Aimed.{aimed}
use Rattle.fz_index.specs.of_model.Openings.{HasEach}
use Rattle.fz_index.specs.of_model.declared.State.TheVariants.{Unknown}
use Rattle.fz_index.specs.of_model.Results.{result_of}
use Rattle.fz_index.specs.of_model.States.{HoldsIfKnown, IsKnownSolution, is_beyond, state_of_row}
use Rattle.fz_index.specs.of_model.declared.Term.{Term}
use Rattle.fz_index.specs.of_model.declared.Term.TheVariants.{Var, Fixed}
use Rattle.fz_index.specs.of_model.Meaning.Place.{Scalar, Array}
use Rattle.fz_index.specs.of_model.Meaning.Argument.{One, ListOf}
use Rattle.fz_index.specs.of_model.Meaning.Point.{DomainPoint, DefinitionPoint, ArrayPoint, ConstraintPoint}
use Rattle.fz_index.specs.of_model.Steps.{Gives, IsResult, give}
use Rattle.fz_index.proofs.of_model.Lists.{all_append, at_place}
use Rattle.fz_index.proofs.of_model.ConstraintStates.{row_fits}
use Rattle.fz_index.proofs.of_model.Points.{points_fit}
use Rattle.fz_index.proofs.of_model.Powers.{power_known, row_power}
use Rattle.fz_index.proofs.of_model.States.{intro}
use Rattle.fz_index.proofs.of_model.Under.{arguments_under, assigned, some_and, value_under}
use Rattle.fz_index.proofs.of_model.Steps.{some_of, PointFits, only_open_none, only_value, option_cons_parts, map_some}
use Rattle.fz_stream.specs.Parts.{SolutionBlock}
use Rattle.fz_stream.specs.of_syntax.Tree.{Printed, PrintedValue}
use Rattle.fz_filling.specs.Solutions.{Extends, HasPrinted}
use Rattle.fz_index.specs.of_model.Names.{literal_value}
use Rattle.fz_filling.specs.Filling.{IsFilling, Run, pairs, pairs_at, printed_scalars, first_printed, start_from, start}
use Rattle.fz_filling.specs.Filling.Run.{Stays, Goes}
use Rattle.fz_filling.specs.declared.completion.Completion.{Completion}
use Rattle.fz_filling.proofs.Running.{by_any, filling_run}

-- ---- one partial assignment under another

-- what has a value with one value of the variable has one with another
module _ (K : Partial) (n : ℕ) (v w : Value) where
  value_at_defined : (K : Partial) (n k : ℕ) (u : Value) → value_at (give K n v) k ≡ Some u
      → (t : Value) × (value_at (give K n w) k ≡ Some t)
  value_at_defined [] n k u e = (u, e)
  value_at_defined (o ∷ K) zero zero u e = (w, refl)
  value_at_defined (o ∷ K) zero (suc k) u e = (u, e)
  value_at_defined (o ∷ K) (suc n) zero u e = (u, e)
  value_at_defined (o ∷ K) (suc n) (suc k) u e = value_at_defined K n k u e

  value_defined : (t : Term) (u : Value) → value (give K n v) t ≡ Some u
      → (s : Value) × (value (give K n w) t ≡ Some s)
  value_defined (Var k) u e = value_at_defined K n k u e
  value_defined (Fixed s) u e = (s, refl)

  values_defined : (ts : List Term) (us : List Value) → values (give K n v) ts ≡ Some us
      → (ss : List Value) × (values (give K n w) ts ≡ Some ss)
  values_defined [] us e = ([], refl)
  values_defined (t ∷ ts) us e =
      let (u, rest, is, are, cons) = option_cons_parts (value (give K n v) t) (values (give K n v) ts) us e in
      let (s, s_is) = value_defined t u is in
      let (ss, ss_are) = values_defined ts rest are in
      (s ∷ ss, λ i. option_cons (s_is i) (ss_are i))

  argument_defined : (x : Argument) (a : ArgValue) → argument_value (give K n v) x ≡ Some a
      → (b : ArgValue) × (argument_value (give K n w) x ≡ Some b)
  argument_defined (One (Scalar k t)) a e = let (u, is, same) = map_some OneValue (value (give K n v) t) a e in let (s, s_is) = value_defined t u is in (OneValue s, ap (option_map OneValue) s_is)
  argument_defined (One (Array name k ts)) a e = let (us, is, same) = map_some ManyValues (values (give K n v) ts) a e in let (ss, ss_are) = values_defined ts us is in (ManyValues ss, ap (option_map ManyValues) ss_are)
  argument_defined (ListOf ps) a e =
      let (us, is, same) = map_some ManyValues (values (give K n v) (terms_in (ListOf ps))) a e in
      let (ss, ss_are) = values_defined (terms_in (ListOf ps)) us is in
      (ManyValues ss, ap (option_map ManyValues) ss_are)

  arguments_defined : (xs : List Argument) (as' : List ArgValue)
      → argument_values (give K n v) xs ≡ Some as'
      → (bs : List ArgValue) × (argument_values (give K n w) xs ≡ Some bs)
  arguments_defined [] as' e = ([], refl)
  arguments_defined (x ∷ xs) as' e =
      let (a, rest, is, are, cons) = option_cons_parts (argument_value (give K n v) x) (argument_values (give K n v) xs) as' e in
      let (b, b_is) = argument_defined x a is in
      let (bs, bs_are) = arguments_defined xs rest are in
      (b ∷ bs, λ i. option_cons (b_is i) (bs_are i))

given_or_before : (K : Partial) (n k : ℕ) (v u : Value) → value_at (give K n v) k ≡ Some u
    → ((k ≡ n) × (u ≡ v)) ⊎ (value_at K k ≡ Some u)
given_or_before [] n k v u e = inr e
given_or_before (o ∷ K) zero zero v u e = inl (refl, cc)
given_or_before (o ∷ K) zero (suc k) v u e = inr e
given_or_before (o ∷ K) (suc n) zero v u e = inr e
given_or_before (o ∷ K) (suc n) (suc k) v u e = elim (given_or_before K n k v u e) [ inl h ↦ inl (ap suc h.0, h.1) | inr h ↦ inr h ]

under_give : (K L : Partial) (n : ℕ) (v : Value) → HasEach K L → value_at L n ≡ Some v
    → HasEach (give K n v) L
under_give K L n v under at k u e = elim (given_or_before K n k v u e) [ inl h ↦ ap (value_at L) h.0 ∙ at ∙ ap Some (sym h.1) | inr h ↦ under k u h ]

-- ---- a step

-- where the point holds with one value of the variable, it holds with the one that a known-solution
-- has
holds_too : (m : Model) (A : Assignment) (K : Partial) (p : Point) (n : ℕ) (v w : Value)
    → Gives m K p n v → HasEach K (whole A) → HasEach (give K n w) (whole A)
    → HoldsIfKnown (whole A) p → HoldsUnder (give K n w) p
holds_too m A K (DomainPoint x k) n v w g before under h =
    let (u, at, in') = some_of (λ z. IsTrue (inside x.domain z)) (value_at (give K n v) k) g.then_holds in
    let (t, t_at) = value_defined K n v w (Var k) u at in
    intro (λ z. IsTrue (inside x.domain z)) (value_at (give K n w) k) t t_at (some_and (λ v. IsTrue (inside x.domain v)) (value_at (whole A) k) t h (under k t t_at))
holds_too m A K (DefinitionPoint x k e) n v w g before under h =
    let (u, l, rest) = some_of (λ v'. IsSomeAnd (value (give K n v) e) (λ w'. v' ≡ w')) (value_at (give K n v) k) g.then_holds in
    let (u', r, _) = some_of (λ w'. u ≡ w') (value (give K n v) e) rest in
    let (a, a_at) = value_defined K n v w (Var k) u l in
    let (b, b_at) = value_defined K n v w e u' r in
    let equal : a ≡ b = some_and (λ w. a ≡ w) (value (whole A) e) b (some_and (λ v. IsSomeAnd (value (whole A) e) (λ w. v ≡ w)) (value_at (whole A) k) a h (under k a a_at)) (value_under (give K n w) (whole A) under e b b_at) in
    intro (λ v'. IsSomeAnd (value (give K n w) e) (λ w'. v' ≡ w')) (value_at (give K n w) k) a a_at (intro (λ w'. a ≡ w') (value (give K n w) e) b b_at equal)
holds_too m A K (ArrayPoint name d ts) n v w g before under h = absurd g.target
holds_too m A K (ConstraintPoint k p) n v w g before under h =
    (elim (row_of p) as (λ o. row_of p ≡ o → (state_of_row (whole A) p.arguments o ≡ Unknown) ⊎ IsSomeAnd o (λ r. IsSomeAnd (argument_values (whole A) p.arguments) (λ vs. IsTrue (row_holds r vs)))
    → IsSomeAnd o (λ r. IsSomeAnd (argument_values (give K n v) p.arguments) (λ vs. IsTrue (row_holds r vs)))
    → IsSomeAnd o (λ r. IsResult K p.arguments n (result_of r)) → IfSome o (λ r. is_beyond K p.arguments r ≡ false)
    → IsSomeAnd o (λ r. IsSomeAnd (argument_values (give K n w) p.arguments) (λ vs. IsTrue (row_holds r vs)))) [
      | None ↦ λ _ _ s _ _. absurd s
      | Some r ↦ λ row h s result fit. elim h [
        | inl unknown ↦
            let none : value_at K n ≡ None = only_open_none K n (flat_map terms_in p.arguments) g.only_open in
            absurd (power_known K (whole A) n none (value_under K (whole A) before) p.arguments r (row_power p r row) (row_fits p r row) result g.only_open fit unknown)
        | inr h ↦
            let (vs, are, _) = some_of (λ vs. IsTrue (row_holds r vs)) (argument_values (give K n v) p.arguments) s in
            let (ws, w_are) = arguments_defined K n v w p.arguments vs are in
            intro (λ vs. IsTrue (row_holds r vs)) (argument_values (give K n w) p.arguments) ws w_are
            (some_and (λ vs. IsTrue (row_holds r vs)) (argument_values (whole A) p.arguments) ws h (arguments_under (give K n w) (whole A) under p.arguments ws w_are))
      ]
    ]) refl h g.then_holds g.target.1 g.numbers_fit

-- a known-solution has the value of a forced step
step_agrees : (m : Model) (A : Assignment) (K : Partial) (p : Point) (n : ℕ) (v : Value)
    → IsAssignment m A → HoldsIfKnown (whole A) p → PointFits m p → HasEach K (whole A)
    → Gives m K p n v → value_at (whole A) n ≡ Some v
step_agrees m A K p n v assignment h fits under g =
    let (w, at, kind) = assigned (variables_of m) A n (kind_of v) assignment g.of_kind in
    let same : v ≡ w = only_value m K p n v w fits g kind (holds_too m A K p n v w g under (under_give K (whole A) n w under at) h) in
    at ∙ ap Some (sym same)

-- what is asked of a point doesn't depend on which variable it may give its value
aimed_holds : (K : Partial) (n : ℕ) (p : Point) → HoldsIfKnown K p → HoldsIfKnown K (aimed n p)
aimed_holds K n (DomainPoint x k) h = h
aimed_holds K n (DefinitionPoint x k e) h = h
aimed_holds K n (ArrayPoint name d ts) h = h
aimed_holds K n (ConstraintPoint k p) h = h

pub aimed_fits : (m : Model) (n : ℕ) (p : Point) → PointFits m p → PointFits m (aimed n p)
aimed_fits m n (DomainPoint x k) h = h
aimed_fits m n (DefinitionPoint x k e) h = h
aimed_fits m n (ArrayPoint name d ts) h = h
aimed_fits m n (ConstraintPoint k p) h = h

-- along a run a known-solution that agrees with the start agrees with the end
run_agrees : (c : Completion) (m : Model) (A : Assignment) {K F : Partial} {steps : List (ℕ × ℕ)}
    → IsKnownSolution m A → Run c m K F steps → HasEach K (whole A) → HasEach F (whole A)
run_agrees c m A solution Stays under = under
run_agrees c m A solution (Goes {K = K} {n = n} k v p at gives rest) under =
    let holds : HoldsIfKnown (whole A) (aimed n p) = aimed_holds (whole A) n p (at_place (HoldsIfKnown (whole A)) (points m) k p solution.each_holds at) in
    let fits : PointFits m (aimed n p) = aimed_fits m n p (at_place (PointFits m) (points m) k p (points_fit m) at) in
    run_agrees c m A solution rest (under_give K (whole A) n v under (step_agrees m A K (aimed n p) n v solution.assignment holds fits under (by_any c m K p n v gives)))

-- ---- the start

abbrev pub Agrees : Partial → (Term × Value) → Type 0
Agrees K q = value K q.0 ≡ Some q.1

-- the printed scalars of a block have the printed values where the assignment extends the block
pairs_agree : (K : Partial) (ts : List Term) (vs : List Value) → values K ts ≡ Some vs
    → AllByRecursion (Agrees K) (pairs ts vs)
pairs_agree K [] vs e = tt
pairs_agree K (t ∷ ts) [] e = tt
pairs_agree K (t ∷ ts) (v ∷ vs) e =
    let (u, us, is, are, cons) = option_cons_parts (value K t) (values K ts) (v ∷ vs) e in
    let first : v ≡ u = cc in
    let rest : vs ≡ us = cc in
    (is ∙ ap Some (sym first), pairs_agree K ts vs (are ∙ ap Some (sym rest)))

place_agrees : (K : Partial) (p : Place) (printed : PrintedValue) → HasPrinted K p printed
    → AllByRecursion (Agrees K) (pairs_at p printed)
place_agrees K (Scalar k t) (PrintedValue.OneValue l) h = (h, tt)
place_agrees K (Scalar k t) (PrintedValue.ArrayOf is ls) h = absurd h
place_agrees K (Array name k ts) (PrintedValue.OneValue l) h = absurd h
place_agrees K (Array name k ts) (PrintedValue.ArrayOf is ls) h = pairs_agree K ts (map literal_value ls) h

item_agrees : (K : Partial) (o : Option Place) (printed : PrintedValue)
    → IsSomeAnd o (λ p. HasPrinted K p printed)
    → AllByRecursion (Agrees K) (option_map_or (λ p. pairs_at p printed) o [])
item_agrees K None printed h = absurd h
item_agrees K (Some p) printed h = place_agrees K p printed h

-- each printed name has the printed value, as where an assignment extends the block
abbrev pub Prints : Model → Partial → List Printed → Type 0
Prints m K items = AllByRecursion (λ i. IsSomeAnd (find_name m i.name) (λ p. HasPrinted K p i.value)) items

pub printed_agree : (m : Model) (K : Partial) (items : List Printed) → Prints m K items
    → AllByRecursion (Agrees K) (printed_scalars m items)
printed_agree m K [] h = tt
printed_agree m K (i ∷ block) h =
    all_append (Agrees K) (option_map_or (λ p. pairs_at p i.value) (find_name m i.name) []) (printed_scalars m block) (item_agrees K (find_name m i.name) i.value h.0) (printed_agree m K block h.1)

-- the value where a variable is printed first is one of those printed
first_agrees : (K : Partial) (qs : List (Term × Value)) (n : ℕ) (v : Value)
    → AllByRecursion (Agrees K) qs → first_printed qs n ≡ Some v → value_at K n ≡ Some v
first_agrees K [] n v h e = cc
first_agrees K ((Fixed w, u) ∷ qs) n v h e = first_agrees K qs n v h.1 e
first_agrees K ((Var k, u) ∷ qs) n v h e =
    (elim (k == n) as (λ b. (k == n) ≡ b → option_or (cond b (Some u) None) (first_printed qs n) ≡ Some v → value_at K n ≡ Some v) [
      | true ↦ λ same e. let is : u ≡ v = cc in ap (value_at K) (sym (eqb-true k n same)) ∙ h.0 ∙ ap Some is
      | false ↦ λ _ e. first_agrees K qs n v h.1 e
    ]) refl e

start_is : (qs : List (Term × Value)) (n : ℕ) (xs : List Variable) (k : ℕ) (v : Value)
    → value_at (start_from qs n xs) k ≡ Some v → first_printed qs (n + k) ≡ Some v
start_is qs n [] k v e = cc
start_is qs n (x ∷ xs) zero v e = ap (first_printed qs) (add-zero n) ∙ e
start_is qs n (x ∷ xs) (suc k) v e = let count : n + suc k ≡ suc n + k = omega arith in ap (first_printed qs) count ∙ start_is qs (suc n) xs k v e

start_agrees : (m : Model) (A : Assignment) (block : SolutionBlock) → Extends m A block
    → HasEach (start m block) (whole A)
start_agrees m A block h n v e = first_agrees (whole A) (printed_scalars m block.items) n v (printed_agree m (whole A) block.items h) (ap (first_printed (printed_scalars m block.items)) (sym (zero-add n)) ∙ start_is (printed_scalars m block.items) 0 (variables_of m) n v e)

-- a known-solution that extends a block agrees with its filling
pub filling_agrees : (c : Completion) (m : Model) (A : Assignment) (block : SolutionBlock) (F : Partial)
    → IsKnownSolution m A → Extends m A block → IsFilling c m block F → HasEach F (whole A)
filling_agrees c m A block F solution extends filling = run_agrees c m A solution (filling_run c m block F filling).1 (start_agrees m A block extends)
