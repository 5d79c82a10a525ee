use Rattle.std.proofs.Common.{◌≡◌, List, [], ◌∷◌, length, map, refl, sym, ◌∙◌}
use Rattle.std.proofs.lemmas.Slice.Zip.{zip_end}
use Rattle.fz_index.specs.of_model.declared.Variable.{Variable}
use Rattle.fz_index.specs.of_model.Parts.{variable_view}
use Rattle.fz_filling.specs.Verdict.{first_unset}
use Rattle.fz_filling.proofs.Lists.{both_end}
use Rattle.fz_filling.proofs.points.first_unset.Goals as goal

no_values : (xs : List Variable) → first_unset (map variable_view xs) [] ≡ []
no_values [] = refl
no_values (x ∷ xs) = refl

pub returns : goal.returns
returns c =
    let e = zip_end c.args.variables.now c.args.values.now c.loop-variable.yielded c.into_iter-variable-iterator.result c.loop-variable.variable-iterator c.next.new.self c.next.result (cc) (cc) c.loop-variable.yielded_by c.in-None.is c.next.ensures.steps in
    sym (c.loop-variable.invariant ∙ both_end (λ (xs : List Variable) K. first_unset (map variable_view xs) K) [] (λ K. refl) no_values c.args.variables.now c.args.values.now (length c.loop-variable.yielded) e)
