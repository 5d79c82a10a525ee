use Rattle.std.proofs.Common.{arith, rules}
use Rattle.fz_search.proofs.Codes.{among_all}
use Rattle.fz_search.proofs.subsets.all_subsets.Goals as goal

pub returns : goal.returns
returns c =
    among_all (record { numbers = c.args.numbers; code = c.saturating_sub-code.result }) c.args.variable.now.kind c.args.variable.now.domain (search rules) (let e = c.in-Some.ensures in let f = c.saturating_sub-code.ensures in omega arith) (c.in_ok-lies_among.ensures c.if-not-branch.false)
