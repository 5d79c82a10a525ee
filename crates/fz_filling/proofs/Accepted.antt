-- Where the verdict is satisfied for a partial assignment, that partial assignment is a whole one,
-- which extends the block and is a solution; and a run of satisfied blocks has solutions in turn.
use Rattle.std.proofs.Common.{◌≡◌, ℕ, suc, zero, ◌≤◌, ℤ, T, Bool, true, false, cond, List, [], ◌∷◌, ◌++◌, length, map, length-append, append_assoc, Option, Some, None, refl, sym, ap, subst, subst₂, ◌∙◌, flat_map, arith, int_lt}
use Rattle.std.specs.Prelude.{⊤, ◌<ℤ◌}
use Rattle.std.specs.List.{AllByRecursion, list_any}
use Rattle.std.specs.Option.{option_map_or, option_or, option_and_then}
use Rattle.fz_index.specs.of_model.of_base.declared.value.Value.{Value}
use Rattle.fz_index.specs.of_model.declared.Kind.TheVariants.{Int as IntKind}
use Rattle.fz_index.specs.of_model.declared.State.{State}
use Rattle.fz_index.specs.of_model.declared.State.TheVariants.{Holds, Fails, NoValue, Unknown, TooLarge}
use Rattle.fz_index.specs.of_model.Relations.{kind_of}
use Rattle.fz_index.specs.of_model.Names.{literal_value}
use Rattle.fz_index.specs.of_model.Meaning.{Place, Declared, Posted, Aim, Model, Point, Partial, Assignment, value, values, value_at, whole, points, inside, find_name, first_some, HoldsUnder, IsSolution, IsPartial, IsAssignment, FitVariables, variables_of, variable_of, numbered, numbered_from, declared_points, definition_points, constraint_points, objective, objective_of, as_int, number_at}
use Rattle.fz_index.specs.of_model.States.{state, judged, judged_by, is_outside, both, same_value, same_values}
use Rattle.fz_index.specs.of_model.declared.Term.{Term}
use Rattle.fz_index.specs.of_model.declared.Term.TheVariants.{Var, Fixed}
use Rattle.fz_index.specs.of_model.Meaning.Place.{Scalar, Array}
use Rattle.fz_index.specs.of_model.Meaning.Declared.{Parameter, ScalarVariable, ArrayOfVariables}
use Rattle.fz_index.specs.of_model.Meaning.Aim.{Satisfy, Minimize, Maximize}
use Rattle.fz_index.specs.of_model.Meaning.Point.{DomainPoint, DefinitionPoint, ArrayPoint, ConstraintPoint}
use Rattle.fz_index.proofs.of_model.Lists.{all_left, all_right, all_map, all_both}
use Rattle.fz_index.proofs.of_model.Scope.{kind_of_term, HasNumberKind, AimsAtNumber}
use Rattle.fz_index.proofs.of_model.States.{intro, judged_holds, point_holds}
use Rattle.fz_index.proofs.of_model.Steps.{as_number_of}
use Rattle.fz_index.proofs.of_model.Values.{no, no', same_value_is, same_values_is}
use Rattle.fz_stream.specs.Parts.{SolutionBlock}
use Rattle.fz_stream.specs.of_syntax.Tree.{Printed, PrintedValue}
use Rattle.fz_filling.specs.Solutions.{Extends, HasPrinted, IsBetter, SolveInTurn}
use Rattle.fz_filling.specs.Verdict.{Verdict, Fault, Reason, verdict, verdict_by, has_printed, printed_fails, fault_at, reason_at, point_fails, point_undecided, objective_fails, not_better_if, AreJudged, answer_of, answer_by, first_number, is_violated, is_undecided}
use Rattle.fz_filling.specs.Verdict.Verdict.{Satisfied, Violated, Undecided}
use Rattle.fz_filling.specs.Verdict.Fault.{PrintedFault}
use Rattle.fz_filling.specs.Verdict.AreJudged.{NoneLeft, OneMore}
use Rattle.fz_filling.specs.Verdict.Answer.{Accepted}
use Rattle.fz_index.proofs.of_model.Under.{assigned}
use Rattle.fz_filling.proofs.Chains.{Prints}

-- ---- nothing fails and nothing is undecided

pub or_none : {A : Type 0} (o p : Option A) → option_or o p ≡ None → (o ≡ None) × (p ≡ None)
or_none None p e = (refl, e)
or_none (Some x) p e = cc

pub first_none : {A B : Type 0} (f : A → Option B) (xs : List A) → first_some f xs ≡ None
    → AllByRecursion (λ x. f x ≡ None) xs
first_none f [] e = tt
first_none f (x ∷ xs) e = let (here, rest) = or_none (f x) (first_some f xs) e in (here, first_none f xs rest)

neither : (o : Option Fault) (r : Option Reason) → verdict_by o r ≡ Satisfied
    → (o ≡ None) × (r ≡ None)
neither None None e = (refl, refl)
neither None (Some r) e = cc
neither (Some f) r e = cc

-- what a point is told of by a state, where it fails or is undecided, is nothing only where it
-- holds
judged_settled : (m : Model) (K : Partial) (p : Point) {A : Type 0} (t : A → Bool) (o : Option A)
    → fault_at p (judged_by t o) ≡ None → reason_at m K p (judged_by t o) ≡ None
    → judged_by t o ≡ Holds
judged_settled m K p t None f r = cc
judged_settled m K p t (Some v) f r = (elim (t v) as (λ b. fault_at p (judged b) ≡ None → judged b ≡ Holds) [ true ↦ λ _. refl | false ↦ λ f. cc ]) f

array_settled : (m : Model) (K : Partial) (p : Point) (b : Bool) (o : Option (List Value))
    → fault_at p (cond b Fails (judged_by (λ vs. true) o)) ≡ None
    → reason_at m K p (cond b Fails (judged_by (λ vs. true) o)) ≡ None
    → cond b Fails (judged_by (λ vs. true) o) ≡ Holds
array_settled m K p true o f r = cc
array_settled m K p false None f r = cc
array_settled m K p false (Some vs) f r = refl

constraint_settled : (m : Model) (K : Partial) (k : ℕ) (p : Posted) (s : State)
    → fault_at (ConstraintPoint k p) s ≡ None → reason_at m K (ConstraintPoint k p) s ≡ None
    → s ≡ Holds
constraint_settled m K k p Holds f r = refl
constraint_settled m K k p Fails f r = cc
constraint_settled m K k p NoValue f r = cc
constraint_settled m K k p Unknown f r = cc
constraint_settled m K k p TooLarge f r = cc

settled : (m : Model) (K : Partial) (p : Point) → point_fails K p ≡ None
    → point_undecided m K p ≡ None → state K p ≡ Holds
settled m K (DomainPoint x n) f r = judged_settled m K (DomainPoint x n) (inside x.domain) (value_at K n) f r
settled m K (DefinitionPoint x n e) f r = judged_settled m K (DefinitionPoint x n e) (λ (v, w). same_value v w) (both (value_at K n) (value K e)) f r
settled m K (ArrayPoint name d ts) f r = array_settled m K (ArrayPoint name d ts) (list_any (is_outside K d) ts) (values K ts) f r
settled m K (ConstraintPoint k p) f r = constraint_settled m K k p (state K (ConstraintPoint k p)) f r

all_hold : (m : Model) (K : Partial) (ps : List Point) → AllByRecursion
    (λ p. point_fails K p ≡ None) ps → AllByRecursion (λ p. point_undecided m K p ≡ None) ps
    → AllByRecursion (λ p. state K p ≡ Holds) ps
all_hold m K [] h k = tt
all_hold m K (p ∷ ps) h k = (settled m K p h.0 k.0, all_hold m K ps h.1 k.1)

-- ---- a partial assignment under which every point holds gives each variable a value

value_at_end : (before after : Partial) (o : Option Value)
    → value_at (before ++ o ∷ after) (length before) ≡ o
value_at_end [] after o = refl
value_at_end (p ∷ before) after o = value_at_end before after o

is_whole : (before : Partial) (n : ℕ) (ds : List Declared) (K : Partial) → length before ≡ n
    → FitVariables (flat_map variable_of ds) K
    → AllByRecursion (λ p. state (before ++ K) p ≡ Holds) (flat_map declared_points (numbered_from n ds)) → (A : Assignment) × (whole A ≡ K)
is_whole before n [] [] count fit h = ([], refl)
is_whole before n [] (o ∷ K) count fit h = absurd fit
is_whole before n (Parameter name p ∷ ds) K count fit h = is_whole before n ds K count fit h
is_whole before n (ArrayOfVariables name k d ts ∷ ds) K count fit h =
    is_whole before n ds K count fit (all_right (λ p. state (before ++ K) p ≡ Holds) (declared_points (n, ArrayOfVariables name k d ts)) (flat_map declared_points (numbered_from n ds)) h)
is_whole before n (ScalarVariable x e ∷ ds) [] count fit h = absurd fit
is_whole before n (ScalarVariable x e ∷ ds) (o ∷ K) count fit h =
    let (u, at, in') = judged_holds (inside x.domain) (value_at (before ++ o ∷ K) n) h.0 in
    let here : o ≡ Some u = sym (value_at_end before K o) ∙ ap (value_at (before ++ o ∷ K)) count ∙ at in
    let longer : length (before ++ o ∷ []) ≡ suc n = length-append before (o ∷ []) ∙ omega arith in
    let rest : AllByRecursion (λ p. state (before ++ o ∷ K) p ≡ Holds) (flat_map declared_points (numbered_from (suc n) ds)) =
    all_right (λ p. state (before ++ o ∷ K) p ≡ Holds) (definition_points x n e) (flat_map declared_points (numbered_from (suc n) ds)) h.1 in
    let rest' : AllByRecursion (λ p. state ((before ++ o ∷ []) ++ K) p ≡ Holds) (flat_map declared_points (numbered_from (suc n) ds)) =
    subst (λ L. AllByRecursion (λ p. state L p ≡ Holds) (flat_map declared_points (numbered_from (suc n) ds))) (sym (append_assoc before (o ∷ []) K)) rest in
    let (A, is) = is_whole (before ++ o ∷ []) (suc n) ds K longer fit.1 rest' in
    (u ∷ A, λ i. sym here i ∷ is i)

-- ---- the printed values

by_some : {A : Type 0} (t : A → Bool) (o : Option A) → option_map_or t o false ≡ true
    → (x : A) × (o ≡ Some x) × (t x ≡ true)
by_some t None e = no e
by_some t (Some x) e = (x, refl, e)

place_printed : (K : Partial) (p : Place) (v : PrintedValue) → has_printed K p v ≡ true
    → HasPrinted K p v
place_printed K (Scalar k t) (PrintedValue.OneValue l) e =
    let (u, is, same) = by_some (λ v. same_value v (literal_value l)) (value K t) e in is ∙ ap Some (same_value_is u (literal_value l) same)
place_printed K (Scalar k t) (PrintedValue.ArrayOf is ls) e = no e
place_printed K (Array name k ts) (PrintedValue.OneValue l) e = no e
place_printed K (Array name k ts) (PrintedValue.ArrayOf is ls) e =
    let (us, are, same) = by_some (λ vs. same_values vs (map literal_value ls)) (values K ts) e in are ∙ ap Some (same_values_is us (map literal_value ls) same)

passes_printed : (b : Bool) (f : Fault) → cond b None (Some f) ≡ None → b ≡ true
passes_printed true f e = refl
passes_printed false f e = cc

pub prints_all : (m : Model) (K : Partial) (items : List Printed)
    → AllByRecursion (λ i. printed_fails m K i ≡ None) items → Prints m K items
prints_all m K [] h = tt
prints_all m K (i ∷ block) h =
    let (p, found, has) = by_some (λ p. has_printed K p i.value) (find_name m i.name) (passes_printed _ (PrintedFault i.name) h.0) in
    (intro (λ p. HasPrinted K p i.value) (find_name m i.name) p found (place_printed K p i.value has), prints_all m K block h.1)

-- ---- a satisfied block

-- what a satisfied block gives
pub record Satisfies (m : Model) (K : Partial) (block : SolutionBlock) (before : Option ℤ) : Type 0 where
  pub assignment : Assignment
  pub is : whole assignment ≡ K
  pub extends : Extends m assignment block
  pub solution : IsSolution m assignment
  pub objective_passes : objective_fails m.aim before (objective m (whole assignment)) ≡ None

-- Where the verdict is satisfied, the partial assignment is an assignment that extends the block
-- and is a solution.
pub satisfied_solves : (m : Model) (K : Partial) (block : SolutionBlock) (before : Option ℤ) → IsPartial m K
    → verdict m K block before ≡ Satisfied → Satisfies m K block before
satisfied_solves m K block before partial e =
    let (no_fault, no_reason) = neither (option_or (first_some (printed_fails m K) block.items) (option_or (first_some (point_fails K) (points m)) (objective_fails m.aim before (objective m K)))) (first_some (point_undecided m K) (points m)) e in
    let (none_printed, others) = or_none (first_some (printed_fails m K) block.items) _ no_fault in
    let (none_point, none_objective) = or_none (first_some (point_fails K) (points m)) _ others in
    let hold : AllByRecursion (λ p. state K p ≡ Holds) (points m) = all_hold m K (points m) (first_none (point_fails K) (points m) none_point) (first_none (point_undecided m K) (points m) no_reason) in
    let (A, is) = is_whole [] 0 m.declared K refl partial (all_left (λ p. state K p ≡ Holds) (flat_map declared_points (numbered m)) (constraint_points 1 m.constraints) hold) in
    record {
      assignment = A;
      is = is;
      extends = prints_all m (whole A) block.items (subst (λ L. AllByRecursion (λ i. printed_fails m L i ≡ None) block.items) (sym is) (first_none (printed_fails m K) block.items none_printed));
      solution = record {
        assignment = subst (IsPartial m) (sym is) partial;
        each_holds = all_map (λ p. state (whole A) p ≡ Holds) (HoldsUnder (whole A)) (point_holds (whole A)) (points m) (subst (λ L. AllByRecursion (λ p. state L p ≡ Holds) (points m)) (sym is) hold);
      };
      objective_passes = subst (λ L. objective_fails m.aim before (objective m L) ≡ None) (sym is) none_objective;
    }

-- a satisfied block is satisfied after any objective that its own is better than
pub satisfied_after : (m : Model) (K : Partial) (block : SolutionBlock) (before found : Option ℤ)
    → verdict m K block before ≡ Satisfied → objective_fails m.aim found (objective m K) ≡ None
    → verdict m K block found ≡ Satisfied
satisfied_after m K block before found e better =
    let (no_fault, no_reason) = neither (option_or (first_some (printed_fails m K) block.items) (option_or (first_some (point_fails K) (points m)) (objective_fails m.aim before (objective m K)))) (first_some (point_undecided m K) (points m)) e in
    let (none_printed, others) = or_none (first_some (printed_fails m K) block.items) _ no_fault in
    let (none_point, none_objective) = or_none (first_some (point_fails K) (points m)) _ others in
    rw (none_printed, none_point, better, no_reason) refl

-- ---- the objective of an assignment

has_number : (m : Model) (A : Assignment) (t : Term) → IsAssignment m A
    → kind_of_term m t ≡ Some IntKind → (n : ℤ) × (number_at (whole A) t ≡ Some n)
has_number m A (Var k) assignment kind =
    let (w, at, is_int) = assigned (variables_of m) A k IntKind assignment kind in
    let (n, is) = as_number_of w is_int in
    (n, ap (option_and_then as_int) at ∙ ap as_int is)
has_number m A (Fixed v) assignment kind =
    let is_int : kind_of v ≡ IntKind = cc in
    let (n, is) = as_number_of v is_int in
    (n, ap as_int is)

not_better_passes : (b : Bool) (n k : ℤ) → not_better_if b n k ≡ None → b ≡ true
not_better_passes true n k e = refl
not_better_passes false n k e = cc

less : (a b : ℤ) → int_lt a b ≡ true → a <ℤ b
less a b e = record { lt = subst T (sym e) tt }

-- where the objective's test passes, the later assignment improves on the earlier one
improves : (m : Model) (aim : Aim) (A B : Assignment) → HasNumberKind m aim → IsAssignment m A
    → IsAssignment m B
    → objective_fails aim (objective_of aim (whole A)) (objective_of aim (whole B)) ≡ None → IsBetter aim (objective_of aim (whole A)) (objective_of aim (whole B))
improves m Satisfy A B kind a b e = tt
improves m (Minimize t) A B kind a b e =
    let (n, n_is) = has_number m A t a kind in
    let (k, k_is) = has_number m B t b kind in
    let passes : not_better_if (int_lt k n) k n ≡ None = subst₂ (λ p q. objective_fails (Minimize t) p q ≡ None) n_is k_is e in
    subst₂ (λ p q. IsBetter (Minimize t) p q) (sym n_is) (sym k_is) (less k n (not_better_passes (int_lt k n) k n passes))
improves m (Maximize t) A B kind a b e =
    let (n, n_is) = has_number m A t a kind in
    let (k, k_is) = has_number m B t b kind in
    let passes : not_better_if (int_lt n k) k n ≡ None = subst₂ (λ p q. objective_fails (Maximize t) p q ≡ None) n_is k_is e in
    subst₂ (λ p q. IsBetter (Maximize t) p q) (sym n_is) (sym k_is) (less n k (not_better_passes (int_lt n k) k n passes))

-- ---- a run of satisfied blocks

abbrev BeforeIs : Model → Option Assignment → Option ℤ → Type 0
BeforeIs m None before = ⊤
BeforeIs m (Some A) before = IsAssignment m A × (before ≡ objective m (whole A))

in_turn : (m : Model) → AimsAtNumber m
    → (earlier : Option Assignment) {before : Option ℤ} {blocks : List SolutionBlock} {vs : List Verdict}
    → BeforeIs m earlier before → AreJudged m (λ b K. IsPartial m K) before blocks vs
    → AllByRecursion (λ v. v ≡ Satisfied) vs → (as' : List Assignment) × SolveInTurn m earlier blocks as'
in_turn m number None was NoneLeft h = ([], tt)
in_turn m number (Some A) was NoneLeft h = ([], tt)
in_turn m number None was (OneMore {before = before} {block = block} K partial rest) h =
    let s : Satisfies m K block before = satisfied_solves m K block before partial h.0 in
    let (others, solve) = in_turn m number (Some s.assignment) (s.solution.assignment, ap (objective m) (sym s.is)) rest h.1 in
    (s.assignment ∷ others, (s.extends, s.solution, tt, solve))
in_turn m number (Some A) was (OneMore {before = before} {block = block} K partial rest) h =
    let s : Satisfies m K block before = satisfied_solves m K block before partial h.0 in
    let (others, solve) = in_turn m number (Some s.assignment) (s.solution.assignment, ap (objective m) (sym s.is)) rest h.1 in
    let passes : objective_fails m.aim (objective m (whole A)) (objective m (whole s.assignment)) ≡ None = subst (λ b. objective_fails m.aim b (objective m (whole s.assignment)) ≡ None) was.1 s.objective_passes in
    (s.assignment ∷ others, (s.extends, s.solution, improves m m.aim A s.assignment number was.0 s.solution.assignment passes, solve))

-- ---- the answer

none_of : (n : ℕ) (is : Verdict → Bool) (vs : List Verdict) → first_number n is vs ≡ None
    → AllByRecursion (λ v. is v ≡ false) vs
none_of n is [] e = tt
none_of n is (v ∷ vs) e =
    (elim (is v) as (λ b. is v ≡ b → cond b (Some n) (first_number (suc n) is vs) ≡ None → (is v ≡ false) × AllByRecursion (λ v. is v ≡ false) vs) [
      | true ↦ λ _ e. cc
      | false ↦ λ here e. (here, none_of (suc n) is vs e)
    ]) refl e

answer_parts : (u v : Option ℕ) (k n : ℕ) → answer_by u v k ≡ Accepted n
    → (u ≡ None) × (v ≡ None) × (k ≡ n) × (1 ≤ n)
answer_parts (Some a) v k n e = cc
answer_parts None (Some a) k n e = cc
answer_parts None None zero n e = cc
answer_parts None None (suc k) n e = let same : suc k ≡ n = cc in (refl, refl, same, omega arith)

neither_is : (v : Verdict) → (is_violated v ≡ false) × (is_undecided v ≡ false) → v ≡ Satisfied
neither_is Satisfied h = refl
neither_is (Violated f) h = no' h.0
neither_is (Undecided r) h = no' h.1

pub all_satisfied : (vs : List Verdict) (n : ℕ) → answer_of vs ≡ Accepted n
    → AllByRecursion (λ v. v ≡ Satisfied) vs
all_satisfied vs n e =
    let (none_violated, none_undecided, _, _) = answer_parts (first_number 1 is_violated vs) (first_number 1 is_undecided vs) (length vs) n e in
    all_map (λ v. (is_violated v ≡ false) × (is_undecided v ≡ false)) (λ v. v ≡ Satisfied) neither_is vs
    (all_both (λ v. is_violated v ≡ false) (λ v. is_undecided v ≡ false) vs (none_of 1 is_violated vs none_violated) (none_of 1 is_undecided vs none_undecided))

-- there is one verdict for each block
pub judged_lengths : (m : Model)
    (P : SolutionBlock → Partial → Type 0) {before : Option ℤ} {blocks : List SolutionBlock} {vs : List Verdict}
    → AreJudged m P before blocks vs → length blocks ≡ length vs
judged_lengths m P NoneLeft = refl
judged_lengths m P (OneMore K proposed rest) = ap suc (judged_lengths m P rest)

-- Where the answer is accepted, the model has solutions for its blocks in turn, and there is one
-- block at least for each verdict.
pub accepted_solves : (m : Model) (blocks : List SolutionBlock) (vs : List Verdict) (n : ℕ) → AimsAtNumber m
    → AreJudged m (λ b K. IsPartial m K) None blocks vs → answer_of vs ≡ Accepted n
    → ((as' : List Assignment) × SolveInTurn m None blocks as') × (length blocks ≡ n) × (1 ≤ n)
accepted_solves m blocks vs n number are e =
    let (_, _, count, some) = answer_parts (first_number 1 is_violated vs) (first_number 1 is_undecided vs) (length vs) n e in
    (in_turn m number None tt are (all_satisfied vs n e), judged_lengths m (λ b K. IsPartial m K) are ∙ count, some)
