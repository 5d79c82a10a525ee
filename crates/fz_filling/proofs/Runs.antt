-- Steps in any order make a chain, where no two points can give the same variable a value.
use Rattle.std.proofs.Common.{◌≡◌, ℕ, suc, zero, ◌+◌, ◌-◌, ◌≤◌, ◌<◌, ◌⊎◌, inl, inr, List, [], ◌∷◌, length, Option, Some, None, refl, sym, ap, subst, subst₂, ◌∙◌, slice_get, arith}
use Rattle.std.specs.List.{AllByRecursion}
use Rattle.std.proofs.lemmas.Bool.{cases_eq}
use Rattle.fz_index.specs.of_model.of_base.declared.value.Value.{Value}
use Rattle.fz_index.specs.of_model.declared.Term.{Term}
use Rattle.fz_index.specs.of_model.declared.Term.TheVariants.{Var, Fixed}
use Rattle.fz_index.specs.of_model.Meaning.{Model, Point, Partial, value_at, points}
use Rattle.fz_index.specs.of_model.Steps.{Gives, GivesNothing, open_terms, terms_of, give}
use Rattle.fz_index.proofs.of_model.Lists.{at_place}
use Rattle.fz_index.proofs.of_model.Points.{points_fit}
use Rattle.fz_index.proofs.of_model.Steps.{PointFits, only_open_none}
use Rattle.fz_filling.specs.Filling.{IsFirstStep, Chain, Run}
use Rattle.fz_filling.specs.Filling.Chain.{Ends, Step}
use Rattle.fz_filling.specs.Filling.Run.{Stays, Goes}
use Rattle.fz_filling.specs.declared.completion.Completion.TheVariants.{Off}
use Rattle.fz_filling.specs.Courses.{AreLone}
use Rattle.fz_filling.specs.Stepping.{NoneGives, IsStepAhead}
use Rattle.fz_filling.proofs.Running.{chain_run, run_joined}
use Rattle.fz_index.proofs.of_model.Lists.{there_is}
use Rattle.fz_filling.proofs.Stepping.{ahead_is_first, wrapped_is_first, no_first, none_and_one}
use Rattle.fz_filling.proofs.Reordering.{IsLater, IsOpen, same_later, then_later, given_later, still_open, swapped, later_gives, gives_before, gives_after, step_value}

-- ---- a run by the number of its steps

abbrev Walk : Model → ℕ → Partial → Partial → Type 0
Walk m zero K F = K ≡ F
Walk m (suc l) K F = (k : ℕ) × (n : ℕ) × (v : Value) × (p : Point) × (slice_get (points m) k ≡ Some p) × Gives m K p n v × Walk m l (give K n v) F

-- nothing gives a step at the end of a chain
chain_ends : (m : Model) {K : Partial} {from : ℕ} {F : Partial} → Chain m K from F
    → AllByRecursion (GivesNothing m F) (points m)
chain_ends m (Ends none) = none
chain_ends m (Step s rest) = chain_ends m rest

walk_of_run : (m : Model) {K F : Partial} {steps : List (ℕ × ℕ)} → Run Off m K F steps
    → (l : ℕ) × Walk m l K F
walk_of_run m Stays = (zero, refl)
walk_of_run m (Goes {n = n} k v p at g rest) =
    let (l, walk) = walk_of_run m rest in (suc l, (k, n, v, p, at, g, walk))

walk_later : (m : Model) (l : ℕ) (K F : Partial) → Walk m l K F → IsLater K F
walk_later m zero K F same = subst (IsLater K) same (same_later K)
walk_later m (suc l) K F (k, n, v, p, at, g, rest) =
    then_later K (give K n v) F (given_later K n v (only_open_none K n (terms_of p) g.only_open)) (walk_later m l (give K n v) F rest)

-- ---- the step of another point first

module _ (m : Model) (lone : AreLone m) where
  -- two steps of a variable are the same
  same_step : (K : Partial) (j k n : ℕ) (p q : Point) (v u : Value)
      → slice_get (points m) j ≡ Some p → slice_get (points m) k ≡ Some q
      → Gives m K p n v → Gives m K q n u → v ≡ u
  same_step K j k n p q v u at at' g h =
      let same : j ≡ k = lone K K j k n p q at at' g.target h.target in
      let equal : p ≡ q = cc in
      step_value m K q n v u (at_place (PointFits m) (points m) k q (points_fit m) at') (subst (λ r. Gives m K r n v) equal g) h

  -- a step that a run takes can be taken first
  taken_first : (l : ℕ) (K F : Partial) (p : Point) (k n : ℕ) (v u : Value)
      → slice_get (points m) k ≡ Some p → Gives m K p n v → value_at F n ≡ Some u
      → Walk m (suc l) K F → Walk m l (give K n v) F
  taken_first zero K F p k n v u at g set (i, n', v', q, at', h, rest) = elim (cases_eq n' n) [
    | inl same ↦
        let moved : Gives m K q n v' = subst (λ j. Gives m K q j v') same h in
        subst₂ (λ j w. give K j w ≡ F) same (same_step K i k n q p v' v at' at moved g) rest
    | inr other ↦
        let none : value_at (give K n' v') n ≡ None = still_open K n' n v' (λ e. other (sym e)) (only_open_none K n (terms_of p) g.only_open) in
        let here : value_at (give K n' v') n ≡ Some u = ap (λ L. value_at L n) rest ∙ set in
        cc
  ]
  taken_first (suc l) K F p k n v u at g set (i, n', v', q, at', h, rest) = elim (cases_eq n' n) [
    | inl same ↦
        let moved : Gives m K q n v' = subst (λ j. Gives m K q j v') same h in
        subst₂ (λ j w. Walk m (suc l) (give K j w) F) same (same_step K i k n q p v' v at' at moved g) rest
    | inr other ↦
        let open_n : value_at K n ≡ None = only_open_none K n (terms_of p) g.only_open in
        let open_n' : value_at K n' ≡ None = only_open_none K n' (terms_of q) h.only_open in
        let more : Walk m l (give (give K n' v') n v) F =
        taken_first l (give K n' v') F p k n v u at (gives_after m K p n n' v v' (λ e. other (sym e)) open_n' g) set rest in
        (i, n', v', q, at', gives_after m K q n' n v' v other open_n h, subst (λ L. Walk m l L F) (swapped K n' n v' v other) more)
  ]

-- ---- what a point gives at the start of a run is known from the run

-- a step of the run, under later values, that gives the variable a value
record Given (m : Model) (K : Partial) (n : ℕ) : Type 0 where
  later : Partial
  is_later : IsLater K later
  number : ℕ
  point : Point
  at : slice_get (points m) number ≡ Some point
  given : Value
  gives : Gives m later point n given

given_in : (m : Model) (l : ℕ) (K F : Partial) (n : ℕ) (u : Value) → IsOpen K n
    → value_at F n ≡ Some u → Walk m l K F → Given m K n
given_in m zero K F n u none set same = let here : value_at K n ≡ Some u = ap (λ L. value_at L n) same ∙ set in cc
given_in m (suc l) K F n u none set (k, i, v, p, at, g, rest) = elim (cases_eq i n) [
  | inl same ↦ record { later = K; is_later = same_later K; number = k; point = p; at = at; given = v; gives = subst (λ j. Gives m K p j v) same g }
  | inr other ↦
      let more : Given m (give K i v) n = given_in m l (give K i v) F n u (still_open K i n v (λ e. other (sym e)) none) set rest in
      let first : IsLater K (give K i v) = given_later K i v (only_open_none K i (terms_of p) g.only_open) in
      record {
        later = more.later;
        is_later = then_later K (give K i v) more.later first more.is_later;
        number = more.number;
        point = more.point;
        at = more.at;
        given = more.given;
        gives = more.gives;
      }
]

abbrev IsKnown : Model → Partial → Point → Type 0
IsKnown m K p = ((n : ℕ) × (v : Value) × Gives m K p n v) ⊎ GivesNothing m K p

module _ (m : Model) (lone : AreLone m) (l : ℕ) (K F : Partial) (walk : Walk m l K F) (nothing : AllByRecursion (GivesNothing m F) (points m)) where
  -- what is given at the start has a value at the end
  set_at_end : (j : ℕ) (p : Point) (n : ℕ) (v : Value) → slice_get (points m) j ≡ Some p
      → Gives m K p n v → IsOpen F n → ⊥
  set_at_end j p n v at g still = at_place (GivesNothing m F) (points m) j p nothing at n v (later_gives m K F p n v (walk_later m l K F walk) still g)

  -- a point with one scalar without a value
  known_of_one : (j : ℕ) (p : Point) (n : ℕ) (o : Option Value) → slice_get (points m) j ≡ Some p
      → open_terms K (terms_of p) ≡ Var n ∷ []
      → value_at F n ≡ o → IsKnown m K p
  known_of_one j p n None at only still = inr (λ i v g.
      let same : ◌≡◌ {A = List Term} (Var n ∷ []) (Var i ∷ []) = sym only ∙ g.only_open in
      let number : n ≡ i = cc in
      set_at_end j p i v at g (subst (IsOpen F) number still))
  known_of_one j p n (Some u) at only set =
      let s : Given m K n = given_in m l K F n u (only_open_none K n (terms_of p) only) set walk in
      elim (cases_eq s.number j) [
        | inl same ↦
            let equal : s.point ≡ p = cc in
            inl (n, s.given, gives_before m K s.later p n s.given s.is_later only (subst (λ q. Gives m s.later q n s.given) equal s.gives))
        | inr other ↦ inr (λ i v g.
            let same : ◌≡◌ {A = List Term} (Var n ∷ []) (Var i ∷ []) = sym only ∙ g.only_open in
            let number : i ≡ n = cc in
            let moved : Gives m K p n v = subst (λ k. Gives m K p k v) number g in
            other (lone s.later K s.number j n s.point p s.at at s.gives.target moved.target))
      ]

  known_by : (j : ℕ) (p : Point) (ts : List Term) → slice_get (points m) j ≡ Some p
      → open_terms K (terms_of p) ≡ ts → IsKnown m K p
  known_by j p [] at e = inr (λ n v g. let same : ◌≡◌ {A = List Term} [] (Var n ∷ []) = sym e ∙ g.only_open in cc)
  known_by j p (Var n ∷ []) at e = known_of_one j p n (value_at F n) at e refl
  known_by j p (Fixed w ∷ []) at e = inr (λ n v g. let same : ◌≡◌ {A = List Term} (Fixed w ∷ []) (Var n ∷ []) = sym e ∙ g.only_open in cc)
  known_by j p (t ∷ s ∷ ts) at e = inr (λ n v g. let same : ◌≡◌ {A = List Term} (t ∷ s ∷ ts) (Var n ∷ []) = sym e ∙ g.only_open in cc)

  known : (j : ℕ) (p : Point) → slice_get (points m) j ≡ Some p → IsKnown m K p
  known j p at = known_by j p (open_terms K (terms_of p)) at refl

-- ---- the first step, where what each point gives is known

record StepIn (m : Model) (K : Partial) (from to : ℕ) : Type 0 where
  number : ℕ
  variable : ℕ
  given : Value
  step : IsStepAhead m K from to number variable given

record FirstFound (m : Model) (K : Partial) (from : ℕ) : Type 0 where
  number : ℕ
  variable : ℕ
  given : Value
  within : number < length (points m)
  first : IsFirstStep m K from number variable given

module _ (m : Model) (K : Partial) (known_of : (j : ℕ) (p : Point) → slice_get (points m) j ≡ Some p → IsKnown m K p) where
  one_more : (from k to : ℕ) (p : Point) → k + 1 ≡ to → from ≤ k → slice_get (points m) k ≡ Some p
      → StepIn m K from k ⊎ NoneGives m K from k → IsKnown m K p → StepIn m K from to ⊎ NoneGives m K from to
  one_more from k to p e above at (inl s) _ =
      let below : s.number < k = s.step.below in
      let step : IsStepAhead m K from to s.number s.variable s.given =
      record { ahead = s.step.ahead; below = omega arith; none_before = s.step.none_before; gives = s.step.gives } in
      inl (record { number = s.number; variable = s.variable; given = s.given; step = step })
  one_more from k to p e above at (inr none) (inl (n, v, g)) =
      let gives : (q : Point) → slice_get (points m) k ≡ Some q → Gives m K q n v = λ q at'. let same : p ≡ q = cc in subst (λ r. Gives m K r n v) same g in
      inl (record { number = k; variable = n; given = v; step = record { ahead = above; below = omega arith; none_before = none; gives = gives } })
  one_more from k to p e above at (inr none) (inr nothing) =
      inr (subst (NoneGives m K from) e (none_and_one m K from k none (λ q at'. let same : p ≡ q = cc in subst (GivesNothing m K) same nothing)))

  step_in : (from count to : ℕ) → from + count ≡ to → to ≤ length (points m)
      → StepIn m K from to ⊎ NoneGives m K from to
  step_in from zero to e inside = inr (λ j p above below at. absurd (omega arith))
  step_in from (suc count) to e inside =
      let (p, at) = there_is (points m) (from + count) (omega arith) in
      one_more from (from + count) to p (omega arith) (omega arith) at (step_in from count (from + count) refl (omega arith)) (known_of (from + count) p at)

  -- it is from the number on or, where there is none, before it
  ahead_found : (from : ℕ) → StepIn m K from (length (points m)) → FirstFound m K from
  ahead_found from s =
      let first : IsFirstStep m K from s.number s.variable s.given = ahead_is_first m K from (length (points m)) s.number s.variable s.given refl s.step in
      record { number = s.number; variable = s.variable; given = s.given; within = s.step.below; first = first }

  wrapped_found : (from : ℕ) → from ≤ length (points m) → NoneGives m K from (length (points m))
      → StepIn m K 0 from → FirstFound m K from
  wrapped_found from inside after s =
      let below : s.number < from = s.step.below in
      let first : IsFirstStep m K from s.number s.variable s.given =
      wrapped_is_first m K from (length (points m)) s.number s.variable s.given refl inside after s.step in
      record { number = s.number; variable = s.variable; given = s.given; within = omega arith; first = first }

  first_found : (from : ℕ) → from ≤ length (points m)
      → FirstFound m K from ⊎ AllByRecursion (GivesNothing m K) (points m)
  first_found from inside = elim (step_in from (length (points m) - from) (length (points m)) (omega arith) (omega arith)) [
    | inl s ↦ inl (ahead_found from s)
    | inr after ↦ elim (step_in 0 from from (omega arith) inside) [
      | inl s ↦ inl (wrapped_found from inside after s)
      | inr before ↦ inr (no_first m K from (length (points m)) refl after before)
    ]
  ]

-- ---- the chain

module _ (m : Model) (lone : AreLone m) (F : Partial) (nothing : AllByRecursion (GivesNothing m F) (points m)) where
  -- the run without its first step in the order of the points
  rest_of : (l : ℕ) (K : Partial) (from k n : ℕ) (v : Value) (o : Option Value) → value_at F n ≡ o
      → IsFirstStep m K from k n v
      → Walk m (suc l) K F → Walk m l (give K n v) F
  rest_of l K from k n v None still s walk =
      absurd (set_at_end m lone (suc l) K F walk nothing k s.point n v s.at s.gives still)
  rest_of l K from k n v (Some u) set s walk = taken_first m lone l K F s.point k n v u s.at s.gives set walk

  chain_of_walk : (l : ℕ) (K : Partial) (from : ℕ) → from ≤ length (points m) → Walk m l K F
      → Chain m K from F
  chain_of_walk zero K from inside same = subst (λ L. Chain m L from F) (sym same) (Ends nothing)
  chain_of_walk (suc l) K from inside walk = elim (first_found m K (known m lone (suc l) K F walk nothing) from inside) [
    | inl s ↦
        let within : s.number < length (points m) = s.within in
        let rest : Walk m l (give K s.variable s.given) F = rest_of l K from s.number s.variable s.given (value_at F s.variable) refl s.first walk in
        Step s.first (chain_of_walk l (give K s.variable s.given) s.number (omega arith) rest)
    | inr none ↦ let (k, n, v, p, at, g, rest) = walk in absurd (at_place (GivesNothing m K) (points m) k p none at n v g)
  ]

-- A run to where a chain begins is a chain itself, from any point, where no two points can give the
-- same variable a value.
pub run_then_chain : (m : Model) (K L F : Partial) (steps : List (ℕ × ℕ)) (from j : ℕ) → AreLone m
    → from ≤ length (points m) → Run Off m K L steps → Chain m L j F → Chain m K from F
run_then_chain m K L F steps from j lone inside run chain =
    let (i, walk) = walk_of_run m (run_joined Off m run (chain_run m chain).1) in
    chain_of_walk m lone F (chain_ends m chain) i K from inside walk
