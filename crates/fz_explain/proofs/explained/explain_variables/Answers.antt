use Rattle.std.proofs.Common.{map}
use Rattle.fz_filling.specs.Givers.{giver_view}
use Rattle.fz_explain.proofs.Telling.{told_next}
use Rattle.fz_explain.proofs.explained.explain_variables.Goals as goal

pub loop-variable-preserved : goal.loop-variable-preserved
loop-variable-preserved c =
    told_next c.args.filling.now (map giver_view c.args.steps.now) c.loop-variable.told.items c.push.new.self.items c.in_ok-explain_variable.field-0
    c.args.variables.now c.loop-variable.variable-index _ c.loop-variable.invariant c.loop-variable-test.true c.in_ok-push.ensures.items c.in_ok-explain_variable.ensures
