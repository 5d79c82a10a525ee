use Rattle.fz_tree.proofs.AheadLaws.{step_leaves}
use Rattle.fz_tree.proofs.ahead.Tokens.load.Goals as goal

pub returns-clause-left : goal.returns-clause-left
returns-clause-left c =
    let old = c.args.self.now.lexer in
    let new = c.read.new.self in
    let same = c.read.ensures.source in
    let within = rw same at new.within in
    let read = c.read.ensures in
    let leaves = step_leaves old.source.now old.place new.place c.read.result c.read.new.next in
    rw same (leaves old.within within read.token read.fault read.none)
