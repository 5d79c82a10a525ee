use Rattle.std.proofs.Common.{◌∙◌, FitsSigned, ap, of_z, w64, rules}
use Rattle.fz_model.specs.of_builtins.of_kernel.Given.{int_at}
use Rattle.fz_bounds.proofs.Shares.{same_bits, told_other, told_same}
use Rattle.fz_bounds.proofs.opened.OpenConstraint.is_at.Goals as goal

pub returns-then-int-clause-other : goal.returns-then-int-clause-other
returns-then-int-clause-other c = λ no.
    let fits : FitsSigned w64 c.int.result = search rules in
    let too : FitsSigned w64 c.int-2.result = search rules in
    told_other c.args.self.now c.requires.probed c.args.index c.int.result c.int-2.result
    (c.int.ensures.read ∙ (λ i. int_at (c.low.ensures.assigned i) (c.low.ensures.arguments i) c.args.index))
    (c.int-2.ensures.read ∙ (λ i. int_at (c.high.ensures.assigned i) (c.high.ensures.arguments i) c.args.index))
    (same_bits c.int.result c.int-2.result fits too c.if-int.true)

pub returns-clause-same : goal.returns-clause-same
returns-clause-same c = λ yes.
    told_same c.args.self.now c.requires.probed c.args.index c.int.result c.int-2.result
    (c.int.ensures.read ∙ (λ i. int_at (c.low.ensures.assigned i) (c.low.ensures.arguments i) c.args.index))
    (c.int-2.ensures.read ∙ (λ i. int_at (c.high.ensures.assigned i) (c.high.ensures.arguments i) c.args.index))
    (λ same. c.if-int.false (ap (of_z w64) same))
