use Rattle.fz_tree.proofs.AheadLaws.{end_scanned}
use Rattle.fz_tree.proofs.ahead.scan.Goals as goal

pub returns-clause-found : goal.returns-clause-found
returns-clause-found c =
    let same = c.loop-token.invariant.same_source in
    let lexer = c.loop-token.lexer in
    let next = rw c.in_default.is at c.in_ok-_token.ensures.token in
    let here = rw same at next in
    let within = rw same at lexer.within in
    let stop = rw same at lexer.stop in
    end_scanned c.args.lexer.source.now lexer.place lexer.place within stop here
