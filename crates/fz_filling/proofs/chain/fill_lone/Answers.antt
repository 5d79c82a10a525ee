use Rattle.std.proofs.Common.{arith}
use Rattle.std.proofs.lemmas.Result.{on_ok_weaker}
use Rattle.fz_filling.specs.declared.completion.Completion.TheVariants.{Off}
use Rattle.fz_filling.proofs.Furthering.{adds_joined}
use Rattle.fz_filling.proofs.Runs.{run_then_chain}
use Rattle.fz_filling.proofs.chain.fill_lone.Goals as goal

pub returns-clause-filled : goal.returns-clause-filled
returns-clause-filled c =
    let (steps, run, are) = c.in_ok-fill_along.ensures.steps in
    on_ok_weaker c.fill_on.result
    (λ chain. run_then_chain c.args.model.now c.args.partial.now c.fill_along.new.partial c.fill_on.new.partial steps 0 0 c.requires.lone (omega arith) run chain)
    c.fill_on.ensures.filled

pub returns-clause-steps : goal.returns-clause-steps
returns-clause-steps c =
    on_ok_weaker c.fill_on.result
    (λ more. adds_joined Off c.args.model.now c.args.partial.now c.fill_along.new.partial c.fill_on.new.partial c.args.steps.now c.fill_along.new.steps c.fill_on.new.steps c.in_ok-fill_along.ensures.steps more)
    c.fill_on.ensures.steps
