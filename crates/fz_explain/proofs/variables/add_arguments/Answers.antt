use Rattle.std.proofs.Common.{◌∙◌}
use Rattle.fz_filling.specs.of_model.Meaning.{terms_in}
use Rattle.fz_filling.specs.of_model.Parts.{argument_view}
use Rattle.fz_explain.proofs.Collecting.{one_more}
use Rattle.fz_explain.proofs.variables.add_arguments.Goals as goal

pub loop-argument-preserved : goal.loop-argument-preserved
loop-argument-preserved c =
    let parts = c.args.parts.now in
    let view = argument_view parts.variables.now parts.arrays.now parts.store.now in
    c.loop-argument.invariant
    ∙ one_more terms_in view c.arguments-argument-items.result.now c.loop-argument.argument-index _ c.loop-argument.variables.keys c.add_argument.new.variables.keys c.loop-argument-test.true c.in_ok-add_argument.ensures
