use Rattle.fz_model.proofs.Sides.{not_all, within_more, among_only}
use Rattle.fz_model.proofs.step.only_number.Goals as goal

pub returns-in-All : goal.returns-in-All
returns-in-All c = rw c.in-All.is (record { exact = not_all })

pub returns-else-lo-hi : goal.returns-else-lo-hi
returns-else-lo-hi c = rw c.in-Within.is (record { exact = within_more c.in-Within.lo c.in-Within.hi (λ e. c.if-lo-hi.false (cc)) })

pub returns-in-Among : goal.returns-in-Among
returns-in-Among c = rw c.in-Among.is (record { exact = among_only c.in-Among.numbers c.only.result c.only.ensures.found c.only.ensures.none })
