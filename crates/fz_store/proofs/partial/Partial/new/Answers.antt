use Rattle.std.proofs.Common.{◌++◌, ◌∷◌, [], None, Option, length, map, replicate, sym, ap, subst, subst₂, ◌∙◌, arith}
use Rattle.std.proofs.lemmas.List.{map_more, length-map, take_all}
use Rattle.fz_meaning.specs.of_base.declared.value.Value.{Value}
use Rattle.fz_meaning.specs.Meaning.{Variable, variables_of}
use Rattle.fz_store.specs.Partial.{IsTabled, number_in, truth_in, unset_count}
use Rattle.fz_store.specs.Parts.{variable_view, no_variable}
use Rattle.fz_store.proofs.Tabled.{all_unset, none_tabled}
use Rattle.fz_store.proofs.partial.Partial.new.Goals as goal

nothing : Variable → Option Value
nothing x = None

pub loop-init : goal.loop-init
loop-init c = c.in_ok-values.ensures.items

pub loop-preserved : goal.loop-preserved
unfolding nothing
loop-preserved c =
    let count = ap length (sym c.variables-count.ensures.all) ∙ length-map c.variables-count.result.now variable_view in
    c.in_ok-push.ensures.items ∙ ap (λ vs. vs ++ None ∷ []) c.loop.invariant ∙ sym (map_more nothing (variables_of c.args.model.now) c.loop.counter no_variable (omega (arith, count, c.loop-test.true)))

pub returns : goal.returns
unfolding nothing
returns c =
    let count = ap length (sym c.variables-count.ensures.all) ∙ length-map c.variables-count.result.now variable_view in
    record { empty = c.loop.invariant ∙ ap (map nothing) (take_all c.loop.counter (variables_of c.args.model.now) (omega (arith, count, c.loop-test.false))) }

pub invariant_of-result : goal.invariant_of-result
unfolding nothing
invariant_of-result c =
    let count = ap length (sym c.variables-count.ensures.all) ∙ length-map c.variables-count.result.now variable_view in
    let all = c.loop.invariant ∙ ap (map nothing) (take_all c.loop.counter (variables_of c.args.model.now) (omega (arith, count, c.loop-test.false))) in
    let tabled = none_tabled (variables_of c.args.model.now) (length c.variables-count.result.now) (sym count) in (
      c.in_ok-empty.ensures,
      subst (λ K. IsTabled K c.in_ok-numbers.numbers.items c.in_ok-truths.truths.items c.in_ok-given.given.items) (sym all)
          (subst₂ (λ ns bs. IsTabled (map nothing (variables_of c.args.model.now)) ns bs c.in_ok-given.given.items) (sym c.in_ok-numbers.ensures) (sym c.in_ok-truths.ensures)
          (subst (λ gs. IsTabled (map nothing (variables_of c.args.model.now)) (replicate (length c.variables-count.result.now) (number_in None)) (replicate (length c.variables-count.result.now) (truth_in None)) gs)
          (sym c.in_ok-given.ensures) tabled)),
      sym (ap unset_count all ∙ all_unset (variables_of c.args.model.now) ∙ count),
    )
