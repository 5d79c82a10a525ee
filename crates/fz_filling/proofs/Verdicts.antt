-- The verdict from its parts: the printed names, the points, and the objective.
use Rattle.std.proofs.Common.{◌≡◌, ℕ, zero, suc, ◌+◌, ◌<◌, true, false, List, [], ◌∷◌, ◌++◌, length, take, drop, Option, Some, None, is_some, option_map, slice_get, refl, sym, ap, ◌∙◌, arith}
use Rattle.std.specs.List.{list_all}
use Rattle.std.specs.Option.{option_or}
use Rattle.fz_index.specs.of_model.Holding.{is_held, point_holds}
use Rattle.fz_index.proofs.of_model.Values.{and_first, and_second}
use Rattle.fz_index.specs.of_model.declared.State.{State}
use Rattle.fz_index.specs.of_model.declared.State.TheVariants.{Holds, Fails, NoValue, Unknown, TooLarge}
use Rattle.fz_index.specs.of_model.Meaning.{Model, Partial, Point, points, first_some, variables_of}
use Rattle.fz_index.specs.of_model.States.{PointName, state, shown_point}
use Rattle.fz_index.specs.of_model.Holding.{is_held}
use Rattle.fz_filling.specs.Verdict.{Fault, Reason, fault_at, fault_named, first_unset, point_fails, point_undecided, reason_at, verdict_by}
use Rattle.fz_filling.specs.Verdict.Verdict.{Violated, Satisfied}
use Rattle.fz_filling.specs.Working.{is_failed, reason_named, with_objective}
use Rattle.fz_index.proofs.of_model.Lists.{there_is}
use Rattle.fz_index.proofs.of_model.ScanSteps.{first_append, or_nothing}
use Rattle.fz_filling.proofs.Lists.{or_some}

-- ---- the objective after the points

pub with_objective_is : (o q : Option Fault) (r : Option Reason)
    → with_objective (verdict_by o r) q ≡ verdict_by (option_or o q) r
with_objective_is (Some f) q r = refl
with_objective_is None q (Some r) = refl
with_objective_is None q None = refl

-- ---- at one point

-- a point that fails is told by its name
pub fails_named : (p : Point) (s : State) (q : PointName) → is_failed s ≡ true → shown_point p ≡ q
    → fault_at p s ≡ Some (fault_named q)
fails_named p Fails q e same = ap (λ x. Some (fault_named x)) same
fails_named p Holds q e same = cc
fails_named p NoValue q e same = cc
fails_named p Unknown q e same = cc
fails_named p TooLarge q e same = cc

pub not_failed : (p : Point) (s : State) → is_failed s ≡ false → fault_at p s ≡ None
not_failed p Fails e = cc
not_failed p Holds e = refl
not_failed p NoValue e = refl
not_failed p Unknown e = refl
not_failed p TooLarge e = refl

pub undecided_named : (m : Model) (K : Partial) (p : Point) (s : State) (q : PointName)
    → shown_point p ≡ q → reason_named (first_unset (variables_of m) K) q s ≡ reason_at m K p s
undecided_named m K p Fails q same = refl
undecided_named m K p Holds q same = refl
undecided_named m K p NoValue q same = refl
undecided_named m K p Unknown q same = ap (λ x. reason_named (first_unset (variables_of m) K) x Unknown) (sym same)
undecided_named m K p TooLarge q same = ap (λ x. reason_named (first_unset (variables_of m) K) x TooLarge) (sym same)

-- ---- the points one after another

pub take_point : {A : Type 0} (ps : List A) (i : ℕ) (p : A) → slice_get ps i ≡ Some p
    → take (i + 1) ps ≡ take i ps ++ p ∷ []
take_point [] i p e = cc
take_point (q ∷ ps) zero p e = let same : q ≡ p = cc in ap (λ x. x ∷ []) same
take_point (q ∷ ps) (suc i) p e = let count : suc i + 1 ≡ suc (i + 1) = omega arith in ap (λ n. take n (q ∷ ps)) count ∙ ap (λ xs. q ∷ xs) (take_point ps i p e)

whole_point : {A : Type 0} (ps : List A) (i : ℕ) (p : A) → slice_get ps i ≡ Some p
    → ps ≡ take i ps ++ p ∷ drop (suc i) ps
whole_point [] i p e = cc
whole_point (q ∷ ps) zero p e = let same : q ≡ p = cc in ap (λ x. x ∷ ps) same
whole_point (q ∷ ps) (suc i) p e = ap (λ xs. q ∷ xs) (whole_point ps i p e)

module _ {A B : Type 0} (f : A → Option B) (ps : List A) (i : ℕ) (p : A) (at : slice_get ps i ≡ Some p) where
  -- none before the point, and one at it
  pub first_at : (b : B) → first_some f (take i ps) ≡ None → f p ≡ Some b → first_some f ps ≡ Some b
  first_at b none here =
      ap (first_some f) (whole_point ps i p at) ∙ first_append f (take i ps) (p ∷ drop (suc i) ps) ∙ (λ j. option_or (none j) (option_or (here j) (first_some f (drop (suc i) ps))))

  pub first_so_far : first_some f (take (i + 1) ps) ≡ option_or (first_some f (take i ps)) (f p)
  first_so_far = ap (first_some f) (take_point ps i p at) ∙ first_append f (take i ps) (p ∷ []) ∙ ap (option_or (first_some f (take i ps))) (or_nothing (f p))

-- ---- a point that holds adds nothing

holds_is : (s : State) → is_held s ≡ true → s ≡ Holds
holds_is Holds e = refl
holds_is Fails e = cc
holds_is NoValue e = cc
holds_is Unknown e = cc
holds_is TooLarge e = cc

module _ (m : Model) (K : Partial) (i : ℕ) (s : State) (within : i < length (points m)) (is : (p : Point) → slice_get (points m) i ≡ Some p → s ≡ state K p) (held : is_held s ≡ true) where
  pub held_passes : first_some (point_fails K) (take i (points m)) ≡ None
      → first_some (point_fails K) (take (i + 1) (points m)) ≡ None
  held_passes none =
      let (p, at) = there_is (points m) i within in
      first_so_far (point_fails K) (points m) i p at ∙ (λ j. option_or (none j) (point_fails K p)) ∙ ap (fault_at p) (sym (is p at) ∙ holds_is s held)

  pub held_decided : (r : Option Reason) → r ≡ first_some (point_undecided m K) (take i (points m))
      → r ≡ first_some (point_undecided m K) (take (i + 1) (points m))
  held_decided r e =
      let (p, at) = there_is (points m) i within in
      let before = first_some (point_undecided m K) (take i (points m)) in
      let none : point_undecided m K p ≡ None = ap (reason_at m K p) (sym (is p at) ∙ holds_is s held) in
      e ∙ sym (first_so_far (point_undecided m K) (points m) i p at ∙ ap (option_or before) none ∙ or_nothing before)

-- ---- a point by its number

told_point : (ps : List Point) (i : ℕ) (p : Point) (q : PointName)
    → option_map shown_point (slice_get ps i) ≡ Some q → slice_get ps i ≡ Some p → shown_point p ≡ q
told_point ps i p q told at = let same : Some (shown_point p) ≡ Some q = sym (ap (option_map shown_point) at) ∙ told in cc

module _ (m : Model) (K : Partial) (i : ℕ) (s : State) (q : PointName) (within : i < length (points m)) (is : (p : Point) → slice_get (points m) i ≡ Some p → s ≡ state K p) (told : option_map shown_point (slice_get (points m) i) ≡ Some q) where
  pub point_violates : (f : Fault) → first_some (point_fails K) (take i (points m)) ≡ None
      → is_failed s ≡ true → f ≡ fault_named q → Violated f
      ≡ verdict_by (first_some (point_fails K) (points m))
      (first_some (point_undecided m K) (points m))
  point_violates f none failed named =
      let (p, at) = there_is (points m) i within in
      let here : point_fails K p ≡ Some f = ap (fault_at p) (sym (is p at)) ∙ fails_named p s q failed (told_point (points m) i p q told at) ∙ ap Some (sym named) in
      ap (λ o. verdict_by o (first_some (point_undecided m K) (points m))) (sym (first_at (point_fails K) (points m) i p at f none here))

  pub point_passes : first_some (point_fails K) (take i (points m)) ≡ None → is_failed s ≡ false
      → first_some (point_fails K) (take (i + 1) (points m)) ≡ None
  point_passes none passed =
      let (p, at) = there_is (points m) i within in
      first_so_far (point_fails K) (points m) i p at ∙ (λ j. option_or (none j) (point_fails K p)) ∙ ap (fault_at p) (sym (is p at)) ∙ not_failed p s passed

  -- the first reason is this point's
  pub reason_here : (r : Option Reason) → first_some (point_undecided m K) (take i (points m))
      ≡ None → r ≡ reason_named (first_unset (variables_of m) K) q s
      → r ≡ first_some (point_undecided m K) (take (i + 1) (points m))
  reason_here r none named =
      let (p, at) = there_is (points m) i within in
      named ∙ undecided_named m K p s q (told_point (points m) i p q told at) ∙ ap (reason_at m K p) (is p at)
      ∙ sym (first_so_far (point_undecided m K) (points m) i p at ∙ (λ j. option_or (none j) (point_undecided m K p)))

  -- or an earlier one's
  pub reason_before : is_some (first_some (point_undecided m K) (take i (points m))) ≡ true
      → first_some (point_undecided m K) (take i (points m))
      ≡ first_some (point_undecided m K) (take (i + 1) (points m))
  reason_before some =
      let (p, at) = there_is (points m) i within in
      sym (first_so_far (point_undecided m K) (points m) i p at ∙ or_some (first_some (point_undecided m K) (take i (points m))) (point_undecided m K p) some)

-- ---- where all points hold

is_held_is : (s : State) → is_held s ≡ true → s ≡ Holds
is_held_is Holds e = refl
is_held_is Fails e = cc
is_held_is NoValue e = cc
is_held_is Unknown e = cc
is_held_is TooLarge e = cc

none_fail : (K : Partial) (ps : List Point) → list_all (point_holds K) ps ≡ true
    → first_some (point_fails K) ps ≡ None
none_fail K [] h = refl
none_fail K (p ∷ ps) h =
    let held = is_held_is (state K p) (and_first (point_holds K p) _ h) in
    let more = none_fail K ps (and_second (point_holds K p) _ h) in
    λ j. option_or (fault_at p (held j)) (more j)

none_undecided : (m : Model) (K : Partial) (ps : List Point) → list_all (point_holds K) ps ≡ true
    → first_some (point_undecided m K) ps ≡ None
none_undecided m K [] h = refl
none_undecided m K (p ∷ ps) h =
    let held = is_held_is (state K p) (and_first (point_holds K p) _ h) in
    let more = none_undecided m K ps (and_second (point_holds K p) _ h) in
    λ j. option_or (reason_at m K p (held j)) (more j)

pub all_held : (m : Model) (K : Partial) → list_all (point_holds K) (points m) ≡ true
    → Satisfied ≡ verdict_by (first_some (point_fails K) (points m))
    (first_some (point_undecided m K) (points m))
all_held m K h = let fails = none_fail K (points m) h in let undecided = none_undecided m K (points m) h in λ j. verdict_by (sym fails j) (sym undecided j)
