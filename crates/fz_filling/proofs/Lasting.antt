-- A block that is violated under its filling is violated under its second filling too.
use Rattle.std.proofs.Common.{◌≡◌, ℕ, suc, zero, ℤ, Bool, true, false, cond, not, ◌||◌, List, [], ◌∷◌, length, flat_map, Option, Some, None, refl, sym, ap, subst, ◌∙◌, slice_get}
use Rattle.std.specs.List.{list_any}
use Rattle.std.specs.Option.{option_map_or, option_or}
use Rattle.fz_index.specs.of_model.of_base.declared.value.Value.{Value}
use Rattle.fz_index.specs.of_model.Builtins.{ArgValue}
use Rattle.fz_index.specs.of_model.Builtins.ArgValue.{OneValue, ManyValues}
use Rattle.fz_index.specs.of_model.declared.Domain.{Domain}
use Rattle.fz_index.specs.of_model.declared.State.TheVariants.{Fails}
use Rattle.fz_index.specs.of_model.declared.Term.{Term}
use Rattle.fz_index.specs.of_model.Meaning.{Argument, Model, Partial, Point, Variable, argument_value, argument_values, first_some, inside, objective, points, row_of, terms_in, value, value_at, values, variables_of}
use Rattle.fz_index.specs.of_model.Meaning.Place.{Scalar, Array}
use Rattle.fz_index.specs.of_model.Meaning.Argument.{One, ListOf}
use Rattle.fz_index.specs.of_model.Meaning.Point.{DomainPoint, DefinitionPoint, ArrayPoint, ConstraintPoint}
use Rattle.fz_index.specs.of_model.Openings.{HasEach}
use Rattle.fz_index.specs.of_model.States.{both, is_outside, judged, judged_by, state, state_of_row, same_value}
use Rattle.fz_index.proofs.of_model.Lists.{all_append, all_map}
use Rattle.fz_index.proofs.of_model.States.{both_some, judged_fails, row_state_fails}
use Rattle.fz_index.proofs.of_model.Steps.{map_some, option_cons_parts}
use Rattle.fz_filling.specs.declared.completion.Completion.TheVariants.{Off, On}
use Rattle.fz_filling.specs.Completed.{AreTold, AreVerdicts, IsCompleted, LacksValuesAtMost}
use Rattle.fz_filling.specs.Completed.IsCompleted.{Found, Refuted, AsFilled, NotBetterThanFound}
use Rattle.fz_filling.specs.Completed.AreTold.{NoneLeft, OneMore}
use Rattle.fz_filling.specs.Filling.{printed_scalars, start, start_from}
use Rattle.fz_stream.specs.Parts.{SolutionBlock}
use Rattle.fz_filling.specs.Verdict.{Fault, Verdict, Reason, fault_at, objective_fails, point_fails, point_undecided, printed_fails, verdict, verdict_by}
use Rattle.fz_filling.specs.Verdict.Verdict.{Violated}
use Rattle.fz_filling.proofs.Accepted.{first_none, prints_all}
use Rattle.fz_filling.proofs.Agreeing.{Agree, row_state_agrees}
use Rattle.fz_index.proofs.of_model.Under.{array_not_fails, value_under}
use Rattle.fz_filling.proofs.Running.{filling_run, run_grows, run_length}
use Rattle.fz_filling.proofs.Violated.{WasNotBetter, filling_grows, is_violated_by, no_fault, none_first, none_printed, objective_fault, objective_under}

-- ---- a point that fails fails under more values

or_second : (a b : Bool) → b ≡ true → (a || b) ≡ true
or_second true b e = refl
or_second false b e = e

module _ (F G : Partial) (under : HasEach F G) where
  values_same : (ts : List Term) (vs : List Value) → values F ts ≡ Some vs → Agree F G ts
  values_same [] vs e = tt
  values_same (t ∷ ts) vs e =
      let (v, ws, is, are, cons) = option_cons_parts (value F t) (values F ts) vs e in
      (is ∙ sym (value_under F G under t v is), values_same ts ws are)

  argument_same : (x : Argument) (a : ArgValue) → argument_value F x ≡ Some a
      → Agree F G (terms_in x)
  argument_same (One (Scalar k t)) a e =
      let (v, is, same) = map_some OneValue (value F t) a e in
      (is ∙ sym (value_under F G under t v is), tt)
  argument_same (One (Array name k ts)) a e = let (vs, are, same) = map_some ManyValues (values F ts) a e in values_same ts vs are
  argument_same (ListOf ps) a e = let (vs, are, same) = map_some ManyValues (values F (terms_in (ListOf ps))) a e in values_same (terms_in (ListOf ps)) vs are

  arguments_same : (xs : List Argument) (as' : List ArgValue) → argument_values F xs ≡ Some as'
      → Agree F G (flat_map terms_in xs)
  arguments_same [] as' e = tt
  arguments_same (x ∷ xs) as' e =
      let (a, bs, is, are, cons) = option_cons_parts (argument_value F x) (argument_values F xs) as' e in
      all_append (λ t. value F t ≡ value G t) (terms_in x) (flat_map terms_in xs) (argument_same x a is) (arguments_same xs bs are)

  outside_here : (d : Domain) (t : Term) (ts : List Term) (u : Value) (b : Bool) → value F t ≡ Some u
      → not (inside d u) ≡ b
      → (list_any (is_outside F d) ts ≡ true → list_any (is_outside G d) ts ≡ true)
      → (b || list_any (is_outside F d) ts) ≡ true → (is_outside G d t || list_any (is_outside G d) ts) ≡ true
  outside_here d t ts u true is out rest any = ap (λ o. option_map_or (λ v. not (inside d v)) o false || list_any (is_outside G d) ts) (value_under F G under t u is) ∙ ap (λ b. b || list_any (is_outside G d) ts) out
  outside_here d t ts u false is out rest any = or_second (is_outside G d t) (list_any (is_outside G d) ts) (rest any)

  still_outside : (d : Domain) (ts : List Term) → list_any (is_outside F d) ts ≡ true
      → list_any (is_outside G d) ts ≡ true
  still_outside d [] any = any
  still_outside d (t ∷ ts) any =
      (elim (value F t) as (λ o. value F t ≡ o → (option_map_or (λ v. not (inside d v)) o false || list_any (is_outside F d) ts) ≡ true → (is_outside G d t || list_any (is_outside G d) ts) ≡ true) [
        | None ↦ λ _ any. or_second (is_outside G d t) (list_any (is_outside G d) ts) (still_outside d ts any)
        | Some u ↦ λ is any. outside_here d t ts u (not (inside d u)) is refl (λ e. still_outside d ts e) any
      ]) refl any

  still_fails : (p : Point) → state F p ≡ Fails → state G p ≡ Fails
  still_fails (DomainPoint x k) s =
      let (u, at, out) = judged_fails (inside x.domain) (value_at F k) s in
      ap (judged_by (inside x.domain)) (under k u at) ∙ ap judged out
  still_fails (DefinitionPoint x k e) s =
      let (pair, at, differ) = judged_fails (λ (v, w). same_value v w) (both (value_at F k) (value F e)) s in
      let (l, r) = both_some (value_at F k) (value F e) pair at in
      (λ i. judged_by (λ (v, w). same_value v w) (both (under k pair.0 l i) (value_under F G under e pair.1 r i))) ∙ ap judged differ
  still_fails (ArrayPoint name d ts) s =
      ap (λ b. cond b Fails (judged_by (λ vs. true) (values G ts))) (still_outside d ts (array_not_fails (list_any (is_outside F d) ts) (values F ts) s))
  still_fails (ConstraintPoint k p) s =
      (elim (row_of p) as (λ o. state_of_row F p.arguments o ≡ Fails → state_of_row G p.arguments o ≡ Fails) [
        | None ↦ λ s. cc
        | Some r ↦ λ s.
            let (vs, are, fail) = row_state_fails F p.arguments r (argument_values F p.arguments) s in
            sym (row_state_agrees F G p.arguments (Some r) (arguments_same p.arguments vs are)) ∙ s
      ]) s

  -- where no point fails under more values, none does
  failed : (p : Point) → state F p ≡ Fails → point_fails G p ≡ None → ⊥
  failed p s none = let fault : fault_at p Fails ≡ None = ap (fault_at p) (sym (still_fails p s)) ∙ none in cc

  none_failed : (ps : List Point) → first_some (point_fails G) ps ≡ None
      → first_some (point_fails F) ps ≡ None
  none_failed ps none =
      none_first (point_fails F) ps
      (all_map (λ p. point_fails G p ≡ None) (λ p. point_fails F p ≡ None) (λ p e. no_fault p (state F p) (λ s. failed p s e)) ps (first_none (point_fails G) ps none))

-- ---- the objective

-- the second has the value of the first, where that has one
abbrev HasIts : Option ℤ → Option ℤ → Type 0
HasIts before after = (b : ℤ) → before ≡ Some b → after ≡ Some b

none_worse : (m : Model) (F G : Partial) (before after : Option ℤ) → HasEach F G → HasIts before after
    → (o : Option Fault) → objective_fails m.aim before (objective m F) ≡ o
    → objective_fails m.aim after (objective m G) ≡ None → o ≡ None
none_worse m F G before after under its None is none = refl
none_worse m F G before after under its (Some f) is none =
    let w : WasNotBetter m.aim before (objective m F) f = objective_fault m.aim before (objective m F) f is in
    let now : objective m G ≡ Some w.later = objective_under m.aim F G w.later under w.now_is in
    let worse : objective_fails m.aim after (objective m G) ≡ Some f = (λ i. objective_fails m.aim (its w.earlier w.before_is i) (now i)) ∙ sym (λ i. objective_fails m.aim (w.before_is i) (w.now_is i)) ∙ is in
    cc

-- ---- the verdict

-- where each fault is followed by one in its place, the verdict is violated again
by_faults : (a b c a' b' c' : Option Fault) (r r' : Option Reason) (f : Fault)
    → (a' ≡ None → a ≡ None) → (b' ≡ None → b ≡ None) → (c' ≡ None → c ≡ None)
    → verdict_by (option_or a (option_or b c)) r ≡ Violated f → (g : Fault) × (verdict_by (option_or a' (option_or b' c')) r' ≡ Violated g)
by_faults a b c (Some g) b' c' r r' f printed point worse e = (g, refl)
by_faults a b c None (Some g) c' r r' f printed point worse e = (g, refl)
by_faults a b c None None (Some g) r r' f printed point worse e = (g, refl)
by_faults a b c None None None r r' f printed point worse e =
    let found : option_or a (option_or b c) ≡ Some f = is_violated_by (option_or a (option_or b c)) r f e in
    let none : option_or a (option_or b c) ≡ None = λ i. option_or (printed refl i) (option_or (point refl i) (worse refl i)) in
    absurd cc

still_violated : (m : Model) (block : SolutionBlock) (F G : Partial) (before after : Option ℤ) (f : Fault)
    → length G ≡ length (variables_of m) → HasEach F G → HasEach (start m block) F
    → HasIts before after → verdict m F block before ≡ Violated f → (g : Fault) × (verdict m G block after ≡ Violated g)
still_violated m block F G before after f as_many under grows its e =
    by_faults (first_some (printed_fails m F) block.items) (first_some (point_fails F) (points m)) (objective_fails m.aim before (objective m F))
    (first_some (printed_fails m G) block.items) (first_some (point_fails G) (points m)) (objective_fails m.aim after (objective m G))
    (first_some (point_undecided m F) (points m)) (first_some (point_undecided m G) (points m)) f
    (λ none. none_printed m G block F as_many under grows (prints_all m G block.items (first_none (printed_fails m G) block.items none)))
    (none_failed F G under (points m))
    (none_worse m F G before after under its (objective_fails m.aim before (objective m F)) refl)
    e

-- ---- the length of a filling

start_length : (qs : List (Term × Value)) (n : ℕ) (xs : List Variable)
    → length (start_from qs n xs) ≡ length xs
start_length qs n [] = refl
start_length qs n (x ∷ xs) = ap suc (start_length qs (suc n) xs)

-- ---- the verdicts of a report for which values are looked for, beside those of one for which not

record Beside (m : Model) (before : Option ℤ) (blocks : List SolutionBlock) (vs : List Verdict) : Type 0 where
  verdicts : List Verdict
  told : (found : Option ℤ) → AreTold Off m before found blocks verdicts
  one_each : length verdicts ≡ length vs
  violated : (i : ℕ) (f : Fault) → slice_get verdicts i ≡ Some (Violated f)
      → (g : Fault) × (slice_get vs i ≡ Some (Violated g))

told_violated : (m : Model) (block : SolutionBlock) (before : Option ℤ) (G : Partial) (w v : Verdict)
    (kept : Option ℤ) (g : Fault) → IsCompleted m block before G w v kept → w ≡ Violated g
    → v ≡ Violated g
told_violated m block before G w v kept g (Found K lacks partial satisfied) e = absurd (subst LacksValuesAtMost e lacks)
told_violated m block before G w v kept g (Refuted k p at none) e = cc
told_violated m block before G w v kept g (AsFilled other) e = e
told_violated m block before G w v kept g (NotBetterThanFound fails) e = cc

beside : (m : Model) {filled found : Option ℤ} {blocks : List SolutionBlock} {vs : List Verdict}
    → AreTold On m filled found blocks vs → (before : Option ℤ) → HasIts before filled
    → Beside m before blocks vs
beside m NoneLeft before its = record { verdicts = []; told = λ found. NoneLeft; one_each = refl; violated = λ i f is. absurd cc }
beside m (OneMore {filled = filled} {found = found} {kept = kept} {block = block} {blocks = blocks} {v = v} {vs = vs} G is_filled is_told rest) before its =
    let (F, chain, furthered) = is_filled.filling in
    let under : HasEach F G = run_grows On m furthered.reached in
    let others : Beside m (objective m F) blocks vs = beside m rest (objective m F) (λ b is. objective_under m.aim F G b under is) in
    let as_many : length G ≡ length (variables_of m) = run_length On m (filling_run On m block G is_filled.filling).1 ∙ start_length (printed_scalars m block.items) 0 (variables_of m) in
    record {
      verdicts = verdict m F block before ∷ others.verdicts;
      told = λ _. OneMore F (record { fits = is_filled.fits; filling = chain }) refl (others.told None);
      one_each = ap suc others.one_each;
      violated = by_place F under as_many (filling_grows Off m block F chain) others;
    }
  where
    by_place : (F : Partial) → HasEach F G → length G ≡ length (variables_of m)
        → HasEach (start m block) F → (others : Beside m (objective m F) blocks vs)
        → (i : ℕ) (f : Fault) → slice_get (verdict m F block before ∷ others.verdicts) i ≡ Some (Violated f) → (g : Fault) × (slice_get (v ∷ vs) i ≡ Some (Violated g))
    by_place F under as_many grows others zero f is =
        let (g, e) = still_violated m block F G before filled f as_many under grows its cc in
        (g, ap Some (told_violated m block found G (verdict m G block filled) v kept g is_told e))
    by_place F under as_many grows others (suc i) f is = others.violated i f is

pub keeps_verdicts : (m : Model) (blocks : List SolutionBlock) (vs : List Verdict)
    → AreVerdicts On m blocks vs
    → (ws : List Verdict) × AreVerdicts Off m blocks ws × (length ws ≡ length vs)
    × ((i : ℕ) (f : Fault) → slice_get ws i ≡ Some (Violated f) → (g : Fault) × (slice_get vs i ≡ Some (Violated g)))
keeps_verdicts m blocks vs told =
    let w : Beside m None blocks vs = beside m told None (λ b none. none) in
    (w.verdicts, w.told None, w.one_each, w.violated)
