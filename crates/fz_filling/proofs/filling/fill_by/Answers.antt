use Rattle.std.proofs.Common.{sym, subst}
use Rattle.std.proofs.lemmas.Result.{on_ok_weaker}
use Rattle.fz_filling.specs.declared.completion.Completion.TheVariants.{On}
use Rattle.fz_filling.specs.Givers.{AddsSteps}
use Rattle.fz_filling.proofs.Furthering.{adds_by_result, adds_in_turn, adds_joined}
use Rattle.fz_filling.proofs.filling.fill_by.Goals as goal

pub returns-in-On-clause-steps : goal.returns-in-On-clause-steps
returns-in-On-clause-steps c =
    let m = c.args.model.now in
    let K = c.args.partial.now in
    let F = c.fill_in.new.partial in
    let G = c.further.new.partial in
    let gs = c.args.steps.now in
    let hs = c.fill_in.new.steps in
    let is = c.further.new.steps in
    on_ok_weaker c.further.result (λ more.
    subst (λ b. AddsSteps b m K G gs is) (sym c.in-On.is)
    (adds_joined On m K F G gs hs is (adds_by_result m K F gs hs c.in_ok-fill_in.ensures.steps) more))
    c.further.ensures.steps

pub returns-in-On-clause-in_turn : goal.returns-in-On-clause-in_turn
returns-in-On-clause-in_turn c =
    let m = c.args.model.now in
    let K = c.args.partial.now in
    let F = c.fill_in.new.partial in
    let G = c.further.new.partial in
    let hs = c.fill_in.new.steps in
    let is = c.further.new.steps in
    on_ok_weaker c.further.result (λ more _.
    adds_in_turn m K F G c.args.steps.now hs is c.in_ok-fill_in.ensures.filled c.in_ok-fill_in.ensures.steps more)
    c.further.ensures.steps
