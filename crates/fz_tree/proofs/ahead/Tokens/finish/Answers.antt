use Rattle.fz_tree.proofs.AheadLaws.{only_scanned}
use Rattle.fz_tree.proofs.ahead.Tokens.finish.Goals as goal

pub returns-clause-only : goal.returns-clause-only
returns-clause-only c = λ limits tokens lexes. only_scanned limits _ tokens c.scan.result lexes c.scan.ensures.refused
