-- The steps that are told, one after another.
use Rattle.std.proofs.Common.{◌≡◌, ℕ, ◌+◌, ◌<◌, inl, inr, subst, List, [], ◌∷◌, ◌++◌, append-nil, append_assoc, Some, map, slice_get, refl, sym, ap, ◌∙◌, arith}
use Rattle.std.proofs.lemmas.Bool.{cases_lt}
use Rattle.fz_index.specs.of_model.of_base.declared.value.Value.{Value}
use Rattle.fz_index.specs.of_model.Meaning.{Model, Partial, Point, points}
use Rattle.fz_index.specs.of_model.Steps.{give}
use Rattle.fz_filling.specs.Filling.{Chain, IsGivenBy}
use Rattle.fz_filling.specs.Filling.Run.{Stays, Goes}
use Rattle.fz_filling.specs.Givers.{AddsInTurn, AddsSteps, Appends, giver_view}
use Rattle.fz_filling.specs.declared.completion.Completion.{Completion}
use Rattle.fz_filling.specs.declared.completion.Completion.TheVariants.{Off, On}
use Rattle.fz_filling.specs.Stepping.{GivesNoneAt}
use Rattle.fz_filling.specs.declared.steps.Giver.{Giver}
use Rattle.fz_filling.specs.declared.steps.Steps.{Steps}
use Rattle.fz_filling.proofs.Running.{run_by_result, run_joined}

-- no step
pub adds_nothing : (c : Completion) (m : Model) (K : Partial) (s : Steps) → AddsSteps c m K K s s
adds_nothing c m K s = ([], Stays, (refl, λ _. sym (append-nil (map giver_view s.told.items))))

-- one step
pub adds_one : (c : Completion) (m : Model) (K : Partial) (before after : Steps) (g : Giver)
    (p : Point) (v : Value) → slice_get (points m) g.point ≡ Some p
    → IsGivenBy c m K p g.variable v → Appends (giver_view g ∷ []) before after
    → AddsSteps c m K (give K g.variable v) before after
adds_one c m K before after g p v at gives told = (giver_view g ∷ [], Goes g.point v p at gives Stays, told)

-- steps of the first filling are also ones of the second
pub adds_by_result : (m : Model) (K L : Partial) (before after : Steps)
    → AddsSteps Off m K L before after → AddsSteps On m K L before after
adds_by_result m K L before after (steps, run, are) = (steps, run_by_result m run, are)

-- some steps are told, and then others
appends_joined : (before between after : Steps) (steps more : List (ℕ × ℕ))
    → Appends steps before between → Appends more between after → Appends (steps ++ more) before after
appends_joined before between after steps more (same, are) (still, are_more) = (
  still ∙ same,
  λ told. are_more (same ∙ told) ∙ ap (λ ss. ss ++ more) (are told)
      ∙ append_assoc (map giver_view before.told.items) steps more,
)

pub adds_joined : (c : Completion) (m : Model) (K L M : Partial) (before between after : Steps)
    → AddsSteps c m K L before between → AddsSteps c m L M between after
    → AddsSteps c m K M before after
adds_joined c m K L M before between after (steps, run, are) (more, others, are_more) =
    (steps ++ more, run_joined c m run others, appends_joined before between after steps more are are_more)

-- those of the first filling, and then those of the second
pub adds_in_turn : (m : Model) (K F G : Partial) (before between after : Steps) → Chain m K 0 F
    → AddsSteps Off m K F before between → AddsSteps On m F G between after
    → AddsInTurn m K G before after
adds_in_turn m K F G before between after chain (steps, run, are) (more, others, are_more) = (
  steps ++ more,
  record {
    between = F;
    first = steps;
    second = more;
    chain = chain;
    to_defined = run;
    by_result = others;
    order = refl;
  },
  appends_joined before between after steps more are are_more,
)

-- one more point gives nothing
pub none_up_to : (c : Completion) (m : Model) (K : Partial) (k : ℕ)
    → ((j : ℕ) → j < k → GivesNoneAt c m K j) → GivesNoneAt c m K k
    → (j : ℕ) → j < k + 1 → GivesNoneAt c m K j
none_up_to c m K k before here j below = elim (cases_lt j k) [
  | inl less ↦ before j less
  | inr above ↦ let same : k ≡ j = omega (arith, below, above) in subst (GivesNoneAt c m K) same here
]
