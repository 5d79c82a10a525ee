use Rattle.std.proofs.Common.{arith, pos}
use Rattle.fz_base.specs.Ranges.{lowest}
use Rattle.fz_base.proofs.Covers.{only_not_none, only_not_apart, only_not_two}
use Rattle.fz_base.proofs.ranges.only.Goals as goal

pub returns-in_default-clause-none : goal.returns-in_default-clause-none
returns-in_default-clause-none c = only_not_none c.args.ranges.now (omega arith)

pub returns-in_default-2-clause-none : goal.returns-in_default-2-clause-none
returns-in_default-2-clause-none c = only_not_apart lowest c.args.ranges.now (record { lo = pos 0; hi = pos 0 }) c.requires.in_order (omega arith) (λ e. c.if-range.false (cc))

pub returns-in_default-3-clause-none : goal.returns-in_default-3-clause-none
returns-in_default-3-clause-none c = only_not_two lowest c.args.ranges.now c.requires.in_order (omega arith)
