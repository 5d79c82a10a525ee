use Rattle.std.proofs.Common.{arith}
use Rattle.std.proofs.lemmas.Int.{ints}
use Rattle.fz_base.proofs.Covers.{nowhere}
use Rattle.fz_base.proofs.Within.{not_all}
use Rattle.fz_base.proofs.ranges.have_all.Goals as goal

pub returns-then-lo-first-clause-missing : goal.returns-then-lo-first-clause-missing
returns-then-lo-first-clause-missing c = λ e all. not_all c.args.ranges.now nowhere c.args.lo c.args.hi c.in-len1-up.len_at_least c.requires.in_order c.requires.ahead c.requires.some (λ low high. omega (arith, ints)) all

pub returns-then-first-hi-clause-missing : goal.returns-then-first-hi-clause-missing
returns-then-first-hi-clause-missing c = λ e all. not_all c.args.ranges.now nowhere c.args.lo c.args.hi c.in-len1-up.len_at_least c.requires.in_order c.requires.ahead c.requires.some (λ low high. omega (arith, ints)) all
