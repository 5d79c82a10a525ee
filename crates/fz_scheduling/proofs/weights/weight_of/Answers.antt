use Rattle.std.proofs.Common.{FitsSigned, to_z, of_z, sym, ◌∙◌, rules}
use Rattle.std.specs.Int.{w128}
use Rattle.std.proofs.lemmas.Int.{to_z-of_z}
use Rattle.fz_kernel.specs.Views.{ints}
use Rattle.fz_scheduling.proofs.Weighed.{no_things, things_alike, weighed}
use Rattle.fz_scheduling.proofs.weights.weight_of.Goals as goal

pub returns-then-not-branch-clause-none : goal.returns-then-not-branch-clause-none
returns-then-not-branch-clause-none c =
    things_alike (ints c.args.things.now) (ints c.args.weights.now) c.args.chosen.now
    (sym c.in_ok-all_elements_different.ensures.exact ∙ c.if-not-branch.true)

pub returns-then-not-is_subset-clause-none : goal.returns-then-not-is_subset-clause-none
returns-then-not-is_subset-clause-none c =
    no_things (ints c.args.things.now) (ints c.args.weights.now) c.args.chosen.now c.in_ok-all.all c.in_ok-all.ensures
    (sym c.is_subset.ensures ∙ c.if-not-is_subset.true)

pub returns-clause-exact : goal.returns-clause-exact
returns-clause-exact c =
    let sum = c.sum_of_chosen.result in
    let fits : FitsSigned w128 sum = search rules in
    weighed (ints c.args.things.now) (ints c.args.weights.now) c.args.chosen.now c.in_ok-all.all c.in_ok-all.ensures
    (sym c.in_ok-all_elements_different.ensures.exact ∙ c.if-not-branch.false)
    (sym c.is_subset.ensures ∙ c.if-not-is_subset.false)
    (to_z w128 (of_z w128 sum)) (to_z-of_z w128 sum fits ∙ c.sum_of_chosen.ensures)
