use Rattle.std.proofs.Common.{◌≡◌, ap, ◌∙◌}
use Rattle.std.proofs.lemmas.Option.{IfSome_then}
use Rattle.std.proofs.lemmas.Result.{IfOk-weaker}
use Rattle.fz_bounds.specs.of_model.Meaning.{Model, Partial, value_at, variables_of, whole}
use Rattle.fz_bounds.specs.of_model.Openings.{HasEach}
use Rattle.fz_bounds.specs.of_model.Partial.{nothing_for}
use Rattle.fz_bounds.proofs.Beginnings.{none_there}
use Rattle.fz_search.proofs.searching.prove.Goals as goal

-- values of which there are none
nothing_asked : (m : Model) (K L : Partial) → K ≡ nothing_for m → HasEach K L
nothing_asked m K L is n v here =
    let none = ap (λ J. value_at J n) is ∙ none_there (variables_of m) n in
    absurd cc

pub returns : goal.returns
returns c = record {
  shown = IfOk-weaker c.refuting.result _ _ (λ o shown. IfSome_then o shown (λ _ none A solution better. none A (solution, nothing_asked c.args.model.now c.in_ok-filling.filling (whole A) c.in_ok-filling.ensures.empty, better))) c.refuting.ensures;
}
