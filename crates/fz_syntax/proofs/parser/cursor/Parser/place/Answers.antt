use Rattle.std.proofs.Common.{◌≤◌, subst, arith}
use Rattle.std.specs.List.{All}
use Rattle.fz_tree.specs.Spanned.{spanned}
use Rattle.fz_syntax.proofs.parser.cursor.Parser.place.Goals as goal

pub returns-in-Some-clause-within : goal.returns-in-Some-clause-within
returns-in-Some-clause-within c =
    let p = c.args.self.now in
    let all = subst (All (λ t. (t.start ≤ t.end) × (t.end ≤ p.end))) c.in-Some.ensures.some p.within in
    all 0 (spanned c.in-Some.first) (omega arith)
