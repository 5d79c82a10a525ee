-- Steps in whatever order, those of a chain among them: what they leave as it is.
use Rattle.std.proofs.Common.{◌≡◌, ℕ, suc, zero, ◌<◌, ◌≤◌, List, [], ◌∷◌, ◌++◌, length, None, Some, refl, ap, subst, ◌∙◌, arith}
use Rattle.fz_index.specs.of_model.of_base.declared.value.Value.{Value}
use Rattle.fz_index.specs.of_model.Aimed.{GivesAny, aimed}
use Rattle.fz_index.specs.of_model.Meaning.{IsPartial, Model, Partial, Point, value_at, variables_of}
use Rattle.fz_index.specs.of_model.Meaning.Point.{ArrayPoint, ConstraintPoint, DefinitionPoint, DomainPoint}
use Rattle.fz_index.specs.of_model.Openings.{HasEach}
use Rattle.fz_index.specs.of_model.Partial.{unset_count}
use Rattle.fz_index.specs.of_model.Relations.{kind_of}
use Rattle.fz_index.specs.of_model.Steps.{Gives, give, terms_of}
use Rattle.fz_index.proofs.of_model.Partials.{give_fits, has_place}
use Rattle.fz_index.proofs.of_model.Steps.{only_open_none, value_at_other}
use Rattle.fz_index.proofs.of_model.Tabled.{one_unset_less}
use Rattle.fz_filling.specs.Filling.{Chain, IsFilling, IsGivenBy, Run, start}
use Rattle.fz_filling.specs.Filling.Chain.{Ends, Step}
use Rattle.fz_filling.specs.Filling.Run.{Goes, Stays}
use Rattle.fz_filling.specs.declared.completion.Completion.{Completion}
use Rattle.fz_filling.specs.declared.completion.Completion.TheVariants.{Off, On}
use Rattle.fz_stream.specs.Parts.{SolutionBlock}

-- ---- one step

-- what a constraint gives its defined variable it gives by a result
by_result : (m : Model) (K : Partial) (p : Point) (n : ℕ) (v : Value) → Gives m K p n v
    → GivesAny m K p n v
by_result m K (DomainPoint x k) n v gives = gives
by_result m K (DefinitionPoint x k e) n v gives = gives
by_result m K (ArrayPoint name d ts) n v gives = gives
by_result m K (ConstraintPoint k p) n v gives = subst (λ t. Gives m K (ConstraintPoint k (record { name = p.name; arguments = p.arguments; target = t })) n v) gives.target.0 gives

pub by_any : (c : Completion) (m : Model) (K : Partial) (p : Point) (n : ℕ) (v : Value)
    → IsGivenBy c m K p n v → GivesAny m K p n v
by_any Off m K p n v gives = by_result m K p n v gives
by_any On m K p n v gives = gives

module _ (c : Completion) (m : Model) (K : Partial) (p : Point) (n : ℕ) (v : Value) (gives : IsGivenBy c m K p n v) where
  pub given_unset : value_at K n ≡ None
  given_unset = only_open_none K n (terms_of (aimed n p)) (by_any c m K p n v gives).only_open

  pub given_fits : IsPartial m K → IsPartial m (give K n v)
  given_fits fits = give_fits (variables_of m) K n v fits (by_any c m K p n v gives).of_kind

  pub given_within : IsPartial m K → n < length K
  given_within fits = has_place m K n (kind_of v) fits (by_any c m K p n v gives).of_kind

  -- it leaves one variable less without a value
  pub one_fewer : IsPartial m K → unset_count (give K n v) < unset_count K
  one_fewer fits =
      let less : unset_count K ≡ suc (unset_count (give K n v)) = one_unset_less K n v (given_within fits) given_unset in
      omega (arith, less)

-- a step takes no value away
pub given_grows : (K : Partial) (n : ℕ) (v : Value) → value_at K n ≡ None → HasEach K (give K n v)
given_grows K n v none = λ k u e. value_at_other K n k v (λ same. none_some k u same e) ∙ e
  where
    none_some : (k : ℕ) (u : Value) → k ≡ n → value_at K k ≡ Some u → ⊥
    none_some k u same e = let at : value_at K k ≡ None = ap (value_at K) same ∙ none in cc

pub length_given : (K : Partial) (n : ℕ) (v : Value) → length (give K n v) ≡ length K
length_given [] n v = refl
length_given (o ∷ K) zero v = refl
length_given (o ∷ K) (suc n) v = ap suc (length_given K n v)

-- ---- a chain is a run, and its steps are also ones of the second filling

pub chain_run : (m : Model) {K : Partial} {from : ℕ} {F : Partial}
    → Chain m K from F → (steps : List (ℕ × ℕ)) × Run Off m K F steps
chain_run m (Ends none) = ([], Stays)
chain_run m (Step {k = k} {n = n} {v = v} s rest) =
    let (steps, run) = chain_run m rest in
    ((n, k) ∷ steps, Goes k v s.point s.at s.gives run)

pub run_by_result : (m : Model) {K F : Partial} {steps : List (ℕ × ℕ)} → Run Off m K F steps
    → Run On m K F steps
run_by_result m Stays = Stays
run_by_result m (Goes {K = K} {n = n} k v p at gives rest) = Goes k v p at (by_result m K p n v gives) (run_by_result m rest)

-- ---- one run after another

pub run_joined : (c : Completion) (m : Model) {K L F : Partial} {before after : List (ℕ × ℕ)}
    → Run c m K L before → Run c m L F after → Run c m K F (before ++ after)
run_joined c m Stays more = more
run_joined c m (Goes k v p at gives rest) more = Goes k v p at gives (run_joined c m rest more)

-- a filling is reached from its start
pub filling_run : (c : Completion) (m : Model) (block : SolutionBlock) (F : Partial) → IsFilling c m block F
    → (steps : List (ℕ × ℕ)) × Run c m (start m block) F steps
filling_run Off m block F chain = chain_run m chain
filling_run On m block G (F, chain, furthered) =
    let (steps, run) = chain_run m chain in
    (steps ++ furthered.steps, run_joined On m (run_by_result m run) furthered.reached)

-- ---- what a run leaves as it is

pub run_grows : (c : Completion) (m : Model) {K F : Partial} {steps : List (ℕ × ℕ)}
    → Run c m K F steps → HasEach K F
run_grows c m Stays = λ n v e. e
run_grows c m (Goes {K = K} {n = n} k v p at gives rest) = λ j u e.
    run_grows c m rest j u (given_grows K n v (given_unset c m K p n v gives) j u e)

pub run_length : (c : Completion) (m : Model) {K F : Partial} {steps : List (ℕ × ℕ)}
    → Run c m K F steps → length F ≡ length K
run_length c m Stays = refl
run_length c m (Goes {K = K} {n = n} k v p at gives rest) = run_length c m rest ∙ length_given K n v

pub run_fits : (c : Completion) (m : Model) {K F : Partial} {steps : List (ℕ × ℕ)}
    → Run c m K F steps → IsPartial m K → IsPartial m F
run_fits c m Stays fits = fits
run_fits c m (Goes {K = K} {n = n} k v p at gives rest) fits = run_fits c m rest (given_fits c m K p n v gives fits)

pub no_more_unset : (c : Completion) (m : Model) {K F : Partial} {steps : List (ℕ × ℕ)}
    → Run c m K F steps → IsPartial m K → unset_count F ≤ unset_count K
no_more_unset c m Stays fits = omega arith
no_more_unset c m (Goes {K = K} {n = n} k v p at gives rest) fits =
    let less = one_fewer c m K p n v gives fits in
    let more = no_more_unset c m rest (given_fits c m K p n v gives fits) in
    omega (arith, less, more)
