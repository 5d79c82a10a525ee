-- A block has one filling.
use Rattle.std.proofs.Common.{◌≡◌, ◌<◌, ◌⊎◌, inl, inr, ℕ, List, [], ◌∷◌, Some, refl, sym, subst, ◌∙◌, slice_get, arith}
use Rattle.std.specs.List.{AllByRecursion}
use Rattle.std.proofs.lemmas.Bool.{cases_eq, cases_lt}
use Rattle.fz_index.specs.of_model.of_base.declared.value.Value.{Value}
use Rattle.fz_index.specs.of_model.Meaning.{Model, Point, Partial, points}
use Rattle.fz_index.specs.of_model.declared.Term.{Term}
use Rattle.fz_index.specs.of_model.declared.Term.TheVariants.{Var}
use Rattle.fz_index.specs.of_model.Steps.{Gives, GivesNothing, give}
use Rattle.fz_index.proofs.of_model.Lists.{at_place}
use Rattle.fz_index.proofs.of_model.Points.{points_fit}
use Rattle.fz_index.proofs.of_model.Steps.{PointFits}
use Rattle.fz_filling.specs.Filling.{Chain, IsFirstStep, IsPassed}
use Rattle.fz_filling.specs.Filling.Chain.{Ends, Step}
use Rattle.fz_filling.proofs.Reordering.{step_value}

-- of two points the one is passed on the way to the other
less_passed : (from j k : ℕ) → j < k → IsPassed from k j ⊎ IsPassed from j k
less_passed from j k less = elim (cases_lt j from) [
  | inr ahead ↦ inl (inl (ahead, less))
  | inl wrapped ↦ elim (cases_lt k from) [
    | inl both ↦ inl (inr (both, inr less))
    | inr one ↦ inr (inr (wrapped, inl one))
  ]
]

one_passed : (from j k : ℕ) → (j ≡ k → ⊥) → IsPassed from k j ⊎ IsPassed from j k
one_passed from j k other = elim (cases_lt j k) [
  | inl less ↦ less_passed from j k less
  | inr above ↦ elim (cases_lt k j) [
    | inl more ↦ elim (less_passed from k j more) [ inl h ↦ inr h | inr h ↦ inl h ]
    | inr under ↦ absurd (other (omega (arith, above, under)))
  ]
]

step_number : (m : Model) (K : Partial) (from j k n i : ℕ) (v u : Value) → IsFirstStep m K from j n v
    → IsFirstStep m K from k i u → j ≡ k
step_number m K from j k n i v u s t = elim (cases_eq j k) [
  | inl same ↦ same
  | inr other ↦ absurd (elim (one_passed from j k other) [
    | inl passed ↦ t.none_passed j s.point passed s.at n v s.gives
    | inr passed ↦ s.none_passed k t.point passed t.at i u t.gives
  ])
]

step_variable : (m : Model) (K : Partial) (p : Point) (n i : ℕ) (v u : Value) → Gives m K p n v
    → Gives m K p i u → i ≡ n
step_variable m K p n i v u g h = let same : ◌≡◌ {A = List Term} (Var n ∷ []) (Var i ∷ []) = sym g.only_open ∙ h.only_open in cc

-- where no point gives anything there is no first step
no_step : (m : Model) (K : Partial) (from k n : ℕ) (v : Value)
    → AllByRecursion (GivesNothing m K) (points m) → IsFirstStep m K from k n v → ⊥
no_step m K from k n v none s = at_place (GivesNothing m K) (points m) k s.point none s.at n v s.gives

pub one_end : (m : Model) {K : Partial} {from : ℕ} {F : Partial} → Chain m K from F → (G : Partial)
    → Chain m K from G → F ≡ G
one_end m (Ends h) G (Ends k) = refl
one_end m (Ends {K = K} {from = from} h) G (Step {k = k} {n = n} {v = v} s rest) = absurd (no_step m K from k n v h s)
one_end m (Step {K = K} {from = from} {k = k} {n = n} {v = v} s rest) G (Ends h) = absurd (no_step m K from k n v h s)
one_end m (Step {K = K} {from = from} {k = k} {n = n} {v = v} s rest) G (Step {k = j} {n = i} {v = u} t others) =
    let number : j ≡ k = sym (step_number m K from k j n i v u s t) in
    let there : slice_get (points m) k ≡ Some t.point = subst (λ l. slice_get (points m) l ≡ Some t.point) number t.at in
    let at : slice_get (points m) k ≡ Some s.point = s.at in
    let point : t.point ≡ s.point = cc in
    let other : Gives m K s.point i u = subst (λ p. Gives m K p i u) point t.gives in
    let variable : i ≡ n = step_variable m K s.point n i v u s.gives other in
    let moved : Gives m K s.point n u = subst (λ l. Gives m K s.point l u) variable other in
    let value : u ≡ v = sym (step_value m K s.point n v u (at_place (PointFits m) (points m) k s.point (points_fit m) s.at) s.gives moved) in
    one_end m rest G (subst (λ l. Chain m (give K n v) l G) number (subst (λ w. Chain m (give K n w) j G) value (subst (λ l. Chain m (give K l u) j G) variable others)))
