use Rattle.std.proofs.Common.{rules, FitsSigned, w64, sym, ap, ◌∙◌}
use Rattle.std.proofs.lemmas.Int.{to_z-of_z}
use Rattle.std.specs.List.{list_all}
use Rattle.std.specs.FinSet as sets
use Rattle.fz_builtins.specs.of_meaning.Meaning.{admits}
use Rattle.fz_model.proofs.Inside.{all_admitted, within_admitted, among_admitted}
use Rattle.fz_model.proofs.domains.admits_each.Goals as goal

pub returns-in-All : goal.returns-in-All
returns-in-All c = all_admitted c.args.set.now ∙ ap (λ d. list_all (admits d) (sets.items c.args.set.now)) (sym c.in-All.is)

pub returns-in-Within : goal.returns-in-Within
returns-in-Within c =
    let low : FitsSigned w64 c.in-Within.low = search rules in
    let high : FitsSigned w64 c.in-Within.high = search rules in
    within_admitted c.in-Within.low c.in-Within.high c.args.set.now c.within.result (simp to_z-of_z at c.within.ensures.exact)
    ∙ ap (λ d. list_all (admits d) (sets.items c.args.set.now)) (sym c.in-Within.is)

pub returns-in-Among : goal.returns-in-Among
returns-in-Among c =
    among_admitted c.args.set.now c.in-Among.others c.is_subset.result c.is_subset.ensures
    ∙ ap (λ d. list_all (admits d) (sets.items c.args.set.now)) (sym c.in-Among.is)
