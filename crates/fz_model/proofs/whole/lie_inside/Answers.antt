use Rattle.std.proofs.Common.{◌<◌, length, arith}
use Rattle.fz_model.proofs.Valued.{not_as_many, inside_not, inside_more, inside_all}
use Rattle.fz_model.proofs.whole.lie_inside.Goals as goal

pub returns-then-variables-values : goal.returns-then-variables-values
returns-then-variables-values c = not_as_many c.args.variables.now c.args.values.now c.if-variables-values.true

pub returns-then-not-lies_inside : goal.returns-then-not-lies_inside
returns-then-not-lies_inside c =
    let lt : c.loop-number.number < length c.args.variables.now = omega (arith, c.loop-number-test.true, c.if-variables-values.false) in
    inside_not c.args.variables.now c.args.values.now c.loop-number.number c.index-variables-number.result c.index-values-number.result lt c.loop-number-test.true c.index-variables-number.is c.index-values-number.is c.loop-number.invariant
    c.lies_inside.result c.lies_inside.ensures c.if-not-lies_inside.true

pub loop-number-preserved : goal.loop-number-preserved
loop-number-preserved c =
    let lt : c.loop-number.number < length c.args.variables.now = omega (arith, c.loop-number-test.true, c.if-variables-values.false) in
    inside_more c.args.variables.now c.args.values.now c.loop-number.number c.index-variables-number.result c.index-values-number.result lt c.loop-number-test.true c.index-variables-number.is c.index-values-number.is c.loop-number.invariant
    c.lies_inside.result c.lies_inside.ensures c.if-not-lies_inside.false

pub returns : goal.returns
returns c = inside_all c.args.variables.now c.args.values.now c.loop-number.number c.if-variables-values.false (omega (arith, c.loop-number-test.false)) c.loop-number.invariant
