-- A block that is violated by anything but its objective is extended by no known-solution; and
-- where it is violated by its objective, no two known-solutions that extend the block before and
-- this one improve.
use Rattle.std.proofs.Common.{◌≡◌, ℕ, suc, zero, ◌+◌, ℤ, T, Bool, true, false, cond, List, [], ◌∷◌, length, map, Option, Some, None, refl, sym, ap, subst, subst₂, ◌∙◌, slice_get, ◌⊎◌, inl, inr, IsSomeAnd, arith, add-zero, zero-add, int_lt, eq-eqb}
use Rattle.std.specs.Prelude.{⊤, ◌<ℤ◌}
use Rattle.std.specs.List.{AllByRecursion}
use Rattle.std.specs.Option.{option_map_or, option_or, option_and_then}
use Rattle.fz_index.specs.of_model.of_base.declared.value.Value.{Value}
use Rattle.fz_index.specs.of_model.declared.State.{State}
use Rattle.fz_index.specs.of_model.declared.State.TheVariants.{Holds, Fails, NoValue, Unknown, TooLarge}
use Rattle.fz_index.specs.of_model.Names.{literal_value}
use Rattle.fz_index.specs.of_model.Meaning.{Place, Variable, Aim, Model, Point, Partial, Assignment, value, values, value_at, whole, points, find_name, first_some, variables_of, objective, objective_of, as_int}
use Rattle.fz_index.specs.of_model.Relations.{option_cons}
use Rattle.fz_index.specs.of_model.Openings.{HasEach}
use Rattle.fz_index.specs.of_model.States.{PointName, shown_point, state, HoldsIfKnown, IsKnownSolution, same_value, same_values}
use Rattle.fz_index.specs.of_model.declared.Term.{Term}
use Rattle.fz_index.specs.of_model.declared.Term.TheVariants.{Var, Fixed}
use Rattle.fz_index.specs.of_model.Meaning.Place.{Scalar, Array}
use Rattle.fz_index.specs.of_model.Meaning.Aim.{Satisfy, Minimize, Maximize}
use Rattle.fz_index.specs.of_model.States.PointName.{DomainOf, DefinitionOf, ConstraintOf}
use Rattle.fz_index.proofs.of_model.Lists.{all_left, all_right, all_map, all_both}
use Rattle.fz_index.proofs.of_model.Under.{never_fails, some_same, value_under}
use Rattle.fz_index.proofs.of_model.Steps.{option_cons_parts}
use Rattle.fz_index.proofs.of_model.Values.{value_itself, values_itself}
use Rattle.fz_stream.specs.Parts.{SolutionBlock}
use Rattle.fz_stream.specs.of_syntax.Tree.{Printed, PrintedValue}
use Rattle.fz_filling.specs.Solutions.{Extends, HasPrinted, IsBetter, Improves}
use Rattle.fz_filling.specs.Filling.{IsFilling, pairs, pairs_at, printed_scalars, if_var, first_printed, start_from, start}
use Rattle.fz_filling.specs.declared.completion.Completion.{Completion}
use Rattle.fz_filling.specs.Verdict.{Fault, Reason, verdict, verdict_by, has_printed, printed_fails, fault_at, fault_named, point_fails, point_undecided, objective_fails, not_better_if}
use Rattle.fz_filling.specs.Verdict.Verdict.{Violated}
use Rattle.fz_filling.specs.Verdict.Fault.{PrintedFault, DomainFault, DefinitionFault, ConstraintFault, NotBetter}
use Rattle.fz_filling.proofs.Starting.{has_room}
use Rattle.fz_filling.proofs.Chains.{Prints, filling_agrees, printed_agree, Agrees}
use Rattle.fz_filling.proofs.Running.{filling_run, run_grows}

-- ---- no point fails

pub no_fault : (p : Point) (s : State) → (s ≡ Fails → ⊥) → fault_at p s ≡ None
no_fault p Holds h = refl
no_fault p Fails h = absurd (h refl)
no_fault p NoValue h = refl
no_fault p Unknown h = refl
no_fault p TooLarge h = refl

pub none_first : {A B : Type 0} (f : A → Option B) (xs : List A) → AllByRecursion (λ x. f x ≡ None) xs
    → first_some f xs ≡ None
none_first f [] h = refl
none_first f (x ∷ xs) h = (λ i. option_or (h.0 i) (first_some f xs)) ∙ none_first f xs h.1

points_hold : (A : Assignment) (F : Partial) (ps : List Point) → HasEach F (whole A)
    → AllByRecursion (HoldsIfKnown (whole A)) ps → first_some (point_fails F) ps ≡ None
points_hold A F ps under h = none_first (point_fails F) ps (all_map (HoldsIfKnown (whole A)) (λ p. point_fails F p ≡ None) (λ p k. no_fault p (state F p) (never_fails A F p under k)) ps h)

-- ---- what is printed has its value in the filling

pub filling_grows : (c : Completion) (m : Model) (block : SolutionBlock) (F : Partial)
    → IsFilling c m block F → HasEach (start m block) F
filling_grows c m block F filled = run_grows c m (filling_run c m block F filled).1

abbrev HasFirst : List (Term × Value) → (Term × Value) → Type 0
HasFirst qs (Var n, v) = (u : Value) × (first_printed qs n ≡ Some u)
HasFirst qs (Fixed w, v) = ⊤

option_or_some : {A : Type 0} (o p : Option A) (x : A) → p ≡ Some x
    → (y : A) × (option_or o p ≡ Some y)
option_or_some None p x e = (x, e)
option_or_some (Some a) p x e = (a, refl)

still_first : (q : Term × Value) (qs : List (Term × Value)) (r : Term × Value) → HasFirst qs r
    → HasFirst (q ∷ qs) r
still_first q qs (Var n, v) h = option_or_some (if_var n q) (first_printed qs n) h.0 h.1
still_first q qs (Fixed w, v) h = tt

here_first : (q : Term × Value) (qs : List (Term × Value)) → HasFirst (q ∷ qs) q
here_first (Var n, v) qs = (v, λ i. option_or (cond (eq-eqb n n refl i) (Some v) None) (first_printed qs n))
here_first (Fixed w, v) qs = tt

have_first : (qs : List (Term × Value)) → AllByRecursion (HasFirst qs) qs
have_first [] = tt
have_first (q ∷ qs) = (here_first q qs, all_map (HasFirst qs) (HasFirst (q ∷ qs)) (still_first q qs) qs (have_first qs))

-- a number that has a value is that of a variable
is_numbered : (xs : List Variable) (K : Partial) (n : ℕ) (v : Value) → length K ≡ length xs
    → value_at K n ≡ Some v → (x : Variable) × (slice_get xs n ≡ Some x)
is_numbered [] [] n v as_many e = cc
is_numbered [] (o ∷ K) n v as_many e = absurd (omega (arith, as_many))
is_numbered (x ∷ xs) [] n v as_many e = cc
is_numbered (x ∷ xs) (o ∷ K) zero v as_many e = (x, refl)
is_numbered (x ∷ xs) (o ∷ K) (suc n) v as_many e = is_numbered xs K n v (omega (arith, as_many)) e

-- at the start a variable has the value with which it is printed first
start_at : (qs : List (Term × Value)) (n : ℕ) (xs : List Variable) (k : ℕ) (x : Variable)
    → slice_get xs k ≡ Some x → value_at (start_from qs n xs) k ≡ first_printed qs (n + k)
start_at qs n [] k x e = cc
start_at qs n (y ∷ xs) zero x e = ap (first_printed qs) (sym (add-zero n))
start_at qs n (y ∷ xs) (suc k) x e = let count : suc n + k ≡ n + suc k = omega arith in start_at qs (suc n) xs k x e ∙ ap (first_printed qs) count

module _ (m : Model) (L : Partial) (block : SolutionBlock) (F : Partial) (as_many : length L ≡ length (variables_of m)) (under : HasEach F L) (grows : HasEach (start m block) F) where
  agrees_too : (q : Term × Value) → HasFirst (printed_scalars m block.items) q × Agrees L q
      → Agrees F q
  agrees_too (Fixed w, v) h = h.1
  agrees_too (Var n, v) h =
      let (x, numbered) = is_numbered (variables_of m) L n v as_many h.1 in
      let at_start : value_at (start m block) n ≡ Some h.0.0 = start_at (printed_scalars m block.items) 0 (variables_of m) n x numbered ∙ ap (first_printed (printed_scalars m block.items)) (zero-add n) ∙ h.0.1 in
      let in_filling : value_at F n ≡ Some h.0.0 = grows n h.0.0 at_start in
      let same : h.0.0 ≡ v = some_same (value_at L n) h.0.0 v (under n h.0.0 in_filling) h.1 in
      in_filling ∙ ap Some same

pairs_values : (F L : Partial) (ts : List Term) (vs : List Value) → values L ts ≡ Some vs
    → AllByRecursion (Agrees F) (pairs ts vs) → values F ts ≡ Some vs
pairs_values F L [] vs e h = e
pairs_values F L (t ∷ ts) [] e h = let (u, us, is, are, cons) = option_cons_parts (value L t) (values L ts) [] e in cc
pairs_values F L (t ∷ ts) (v ∷ vs) e h =
    let (u, us, is, are, cons) = option_cons_parts (value L t) (values L ts) (v ∷ vs) e in
    let rest : vs ≡ us = cc in
    λ i. option_cons (h.0 i) (pairs_values F L ts vs (are ∙ ap Some (sym rest)) h.1 i)

place_has : (F L : Partial) (p : Place) (value : PrintedValue) → HasPrinted L p value
    → AllByRecursion (Agrees F) (pairs_at p value) → has_printed F p value ≡ true
place_has F L (Scalar k t) (PrintedValue.OneValue l) h agree = ap (λ o. option_map_or (λ v. same_value v (literal_value l)) o false) agree.0 ∙ value_itself (literal_value l)
place_has F L (Scalar k t) (PrintedValue.ArrayOf is ls) h agree = absurd h
place_has F L (Array name k ts) (PrintedValue.OneValue l) h agree = absurd h
place_has F L (Array name k ts) (PrintedValue.ArrayOf is ls) h agree =
    ap (λ o. option_map_or (λ vs. same_values vs (map literal_value ls)) o false) (pairs_values F L ts (map literal_value ls) h agree) ∙ values_itself (map literal_value ls)

item_has : (F L : Partial) (name : List ℕ) (o : Option Place) (value : PrintedValue)
    → IsSomeAnd o (λ p. HasPrinted L p value)
    → AllByRecursion (Agrees F) (option_map_or (λ p. pairs_at p value) o [])
    → cond (option_map_or (λ p. has_printed F p value) o false) None (Some (PrintedFault name)) ≡ None
item_has F L name None value h agree = absurd h
item_has F L name (Some p) value h agree = ap (λ b. cond b None (Some (PrintedFault name))) (place_has F L p value h agree)

items_have : (m : Model) (F L : Partial) (items : List Printed) → Prints m L items
    → AllByRecursion (Agrees F) (printed_scalars m items) → first_some (printed_fails m F) items ≡ None
items_have m F L [] h agree = refl
items_have m F L (i ∷ block) h agree =
    (λ j. option_or (item_has F L i.name (find_name m i.name) i.value h.0 (all_left (Agrees F) (option_map_or (λ p. pairs_at p i.value) (find_name m i.name) []) (printed_scalars m block) agree) j) (first_some (printed_fails m F) block))
    ∙ items_have m F L block h.1 (all_right (Agrees F) (option_map_or (λ p. pairs_at p i.value) (find_name m i.name) []) (printed_scalars m block) agree)

-- what is printed for each name is its value in a filling, where it is so under more values
pub none_printed : (m : Model) (L : Partial) (block : SolutionBlock) (F : Partial)
    → length L ≡ length (variables_of m) → HasEach F L → HasEach (start m block) F
    → Prints m L block.items → first_some (printed_fails m F) block.items ≡ None
none_printed m L block F as_many under grows prints =
    items_have m F L block.items prints
    (all_map (λ q. HasFirst (printed_scalars m block.items) q × Agrees L q) (Agrees F) (agrees_too m L block F as_many under grows) (printed_scalars m block.items)
    (all_both (HasFirst (printed_scalars m block.items)) (Agrees L) (printed_scalars m block.items) (have_first (printed_scalars m block.items)) (printed_agree m L block.items prints)))

-- ---- a violated block

-- the fault is that the objective is not better
abbrev pub IsNotBetter : Fault → Type 0
IsNotBetter (NotBetter now before) = ⊤
IsNotBetter (PrintedFault name) = ⊥
IsNotBetter (DomainFault name) = ⊥
IsNotBetter (DefinitionFault name) = ⊥
IsNotBetter (ConstraintFault k name) = ⊥

not_better_of : (b : Bool) (now before : ℤ) (f : Fault) → not_better_if b now before ≡ Some f
    → (b ≡ false) × (f ≡ NotBetter now before)
not_better_of true now before f e = cc
not_better_of false now before f e = (refl, cc)

-- what the objective's fault says of an aim
pub record WasNotBetter (aim : Aim) (before now : Option ℤ) (f : Fault) : Type 0 where
  pub earlier : ℤ
  pub later : ℤ
  pub before_is : before ≡ Some earlier
  pub now_is : now ≡ Some later
  fault : f ≡ NotBetter later earlier
  fails_so : IsBetter aim (Some earlier) (Some later) → ⊥

not_less : (a b : ℤ) → int_lt a b ≡ false → a <ℤ b → ⊥
not_less a b e h = subst T e h.lt

pub objective_fault : (aim : Aim) (before now : Option ℤ) (f : Fault)
    → objective_fails aim before now ≡ Some f → WasNotBetter aim before now f
objective_fault Satisfy before now f e = cc
objective_fault (Minimize t) None now f e = cc
objective_fault (Minimize t) (Some b) None f e = cc
objective_fault (Minimize t) (Some b) (Some n) f e =
    let (is_false, is) = not_better_of (int_lt n b) n b f e in
    record { earlier = b; later = n; before_is = refl; now_is = refl; fault = is; fails_so = not_less n b is_false }
objective_fault (Maximize t) None now f e = cc
objective_fault (Maximize t) (Some b) None f e = cc
objective_fault (Maximize t) (Some b) (Some n) f e =
    let (is_false, is) = not_better_of (int_lt b n) n b f e in
    record { earlier = b; later = n; before_is = refl; now_is = refl; fault = is; fails_so = not_less b n is_false }

pub is_violated_by : (o : Option Fault) (r : Option Reason) (f : Fault) → verdict_by o r ≡ Violated f
    → o ≡ Some f
is_violated_by None None f e = cc
is_violated_by None (Some r) f e = cc
is_violated_by (Some g) r f e = cc

module _ (c : Completion) (m : Model) (block : SolutionBlock) (F : Partial) (filled : IsFilling c m block F) (A : Assignment) (solution : IsKnownSolution m A) (extends : Extends m A block) where
  agrees : HasEach F (whole A)
  agrees = filling_agrees c m A block F solution extends filled

  nothing_printed_fails : first_some (printed_fails m F) block.items ≡ None
  unfolding agrees
  nothing_printed_fails = none_printed m (whole A) block F (has_room m (whole A) solution.assignment) agrees (filling_grows c m block F filled) extends

  -- the verdict can only be violated by the objective
  only_objective : (before : Option ℤ) (f : Fault) → verdict m F block before ≡ Violated f
      → WasNotBetter m.aim before (objective m F) f
  only_objective before f e =
      let found : option_or (first_some (printed_fails m F) block.items) (option_or (first_some (point_fails F) (points m)) (objective_fails m.aim before (objective m F))) ≡ Some f =
      is_violated_by _ (first_some (point_undecided m F) (points m)) f e in
      let not_printed : option_or (first_some (point_fails F) (points m)) (objective_fails m.aim before (objective m F)) ≡ Some f =
      subst (λ o. option_or o (option_or (first_some (point_fails F) (points m)) (objective_fails m.aim before (objective m F))) ≡ Some f) nothing_printed_fails found in
      let not_point : objective_fails m.aim before (objective m F) ≡ Some f =
      subst (λ o. option_or o (objective_fails m.aim before (objective m F)) ≡ Some f) (points_hold A F (points m) agrees solution.each_holds) not_printed in
      objective_fault m.aim before (objective m F) f not_point

-- Where a block is violated by anything but its objective, no known-solution extends it.
pub violated_has_none : (c : Completion) (m : Model) (block : SolutionBlock) (F : Partial)
    (before : Option ℤ) (f : Fault) → IsFilling c m block F → verdict m F block before ≡ Violated f → (IsNotBetter f → ⊥)
    → (A : Assignment) → IsKnownSolution m A → Extends m A block → ⊥
violated_has_none c m block F before f filled e other A solution extends =
    let w : WasNotBetter m.aim before (objective m F) f = only_objective c m block F filled A solution extends before f e in
    other (subst IsNotBetter (sym w.fault) tt)

int_under : (F L : Partial) (t : Term) (n : ℤ) → HasEach F L
    → option_and_then as_int (value F t) ≡ Some n → option_and_then as_int (value L t) ≡ Some n
int_under F L t n under e =
    (elim (value F t) as (λ o. value F t ≡ o → option_and_then as_int o ≡ Some n → option_and_then as_int (value L t) ≡ Some n) [
      | None ↦ λ _ e. cc
      | Some u ↦ λ is e. ap (option_and_then as_int) (value_under F L under t u is) ∙ e
    ]) refl e

pub objective_under : (aim : Aim) (F L : Partial) (n : ℤ) → HasEach F L → objective_of aim F ≡ Some n
    → objective_of aim L ≡ Some n
objective_under Satisfy F L n under e = cc
objective_under (Minimize t) F L n under e = int_under F L t n under e
objective_under (Maximize t) F L n under e = int_under F L t n under e

-- Where a block is violated by its objective, no two known-solutions, one that extends the block
-- before and one that extends this one, improve.
pub not_better_has_none : (c : Completion) (m : Model) (earlier block : SolutionBlock) (E F : Partial)
    (f : Fault) → IsFilling c m earlier E → IsFilling c m block F → verdict m F block (objective m E) ≡ Violated f
    → (A B : Assignment) → IsKnownSolution m A → Extends m A earlier → IsKnownSolution m B → Extends m B block → Improves m (Some A) B → ⊥
not_better_has_none c m earlier block E F f filled_E filled_F e A B solution_A extends_A solution_B extends_B improves =
    let w : WasNotBetter m.aim (objective m E) (objective m F) f = only_objective c m block F filled_F B solution_B extends_B (objective m E) f e in
    let a_is : objective m (whole A) ≡ Some w.earlier = objective_under m.aim E (whole A) w.earlier (filling_agrees c m A earlier E solution_A extends_A filled_E) w.before_is in
    let b_is : objective m (whole B) ≡ Some w.later = objective_under m.aim F (whole B) w.later (filling_agrees c m B block F solution_B extends_B filled_F) w.now_is in
    w.fails_so (subst₂ (λ p q. IsBetter m.aim p q) a_is b_is improves)

-- the two objectives of the fault
pub is_not_better : (f : Fault) → IsNotBetter f
    → (now : ℤ) × (before : ℤ) × (f ≡ NotBetter now before)
is_not_better (NotBetter now before) h = (now, before, refl)
is_not_better (PrintedFault name) h = absurd h
is_not_better (DomainFault name) h = absurd h
is_not_better (DefinitionFault name) h = absurd h
is_not_better (ConstraintFault k name) h = absurd h

-- ---- the first block is not violated by its objective

not_printed : (m : Model) (K : Partial) (i : Printed) (f : Fault) → printed_fails m K i ≡ Some f
    → IsNotBetter f → ⊥
not_printed m K i f e h =
    (elim (option_map_or (λ p. has_printed K p i.value) (find_name m i.name) false) as (λ b. cond b None (Some (PrintedFault i.name)) ≡ Some f → ⊥) [
      | true ↦ λ e. cc
      | false ↦ λ e. let same : PrintedFault i.name ≡ f = cc in subst IsNotBetter (sym same) h
    ]) e

not_named : (n : PointName) → IsNotBetter (fault_named n) → ⊥
not_named (DomainOf x) h = h
not_named (DefinitionOf x) h = h
not_named (ConstraintOf k x) h = h

not_at : (p : Point) (s : State) (f : Fault) → fault_at p s ≡ Some f → IsNotBetter f → ⊥
not_at p Holds f e h = cc
not_at p Fails f e h = let same : fault_named (shown_point p) ≡ f = cc in not_named (shown_point p) (subst IsNotBetter (sym same) h)
not_at p NoValue f e h = cc
not_at p Unknown f e h = cc
not_at p TooLarge f e h = cc

pub either : {A : Type 0} (o p : Option A) (x : A) → option_or o p ≡ Some x
    → (o ≡ Some x) ⊎ (p ≡ Some x)
either None p x e = inr e
either (Some y) p x e = inl e

not_first : {A : Type 0} (t : A → Option Fault) → ((x : A) (f : Fault) → t x ≡ Some f
    → IsNotBetter f → ⊥) → (xs : List A) (f : Fault) → first_some t xs ≡ Some f → IsNotBetter f → ⊥
not_first t never [] f e h = cc
not_first t never (x ∷ xs) f e h = elim (either (t x) (first_some t xs) f e) [ inl here ↦ never x f here h | inr later ↦ not_first t never xs f later h ]

nothing_before : (aim : Aim) (now : Option ℤ) → objective_fails aim None now ≡ None
nothing_before Satisfy now = refl
nothing_before (Minimize t) now = refl
nothing_before (Maximize t) now = refl

pub never_first : (m : Model) (K : Partial) (block : SolutionBlock) (f : Fault) → IsNotBetter f
    → verdict m K block None ≡ Violated f → ⊥
never_first m K block f h e =
    let found : option_or (first_some (printed_fails m K) block.items) (option_or (first_some (point_fails K) (points m)) (objective_fails m.aim None (objective m K))) ≡ Some f =
    is_violated_by _ (first_some (point_undecided m K) (points m)) f e in
    elim (either (first_some (printed_fails m K) block.items) (option_or (first_some (point_fails K) (points m)) (objective_fails m.aim None (objective m K))) f found) [
      | inl printed ↦ not_first (printed_fails m K) (not_printed m K) block.items f printed h
      | inr others ↦ elim (either (first_some (point_fails K) (points m)) (objective_fails m.aim None (objective m K)) f others) [
        | inl point ↦ not_first (point_fails K) (λ p. not_at p (state K p)) (points m) f point h
        | inr objective' ↦ let none : objective_fails m.aim None (objective m K) ≡ None = nothing_before m.aim (objective m K) in cc
      ]
    ]
