use Rattle.std.proofs.Common.{◌≤◌, refl}
use Rattle.std.proofs.lemmas.List.Elements.{All-drop}
use Rattle.fz_tree.specs.Left.{left}
use Rattle.fz_syntax.proofs.Walks.{skip_passed}
use Rattle.fz_syntax.proofs.parser.cursor.Parser.skip.Goals as goal

pub invariant_of-self : goal.invariant_of-self
invariant_of-self c =
    let p = c.args.self.now in
    record { within = rw c.advance.ensures.left (All-drop (λ t. (t.start ≤ t.end) × (t.end ≤ p.end)) 1 (left p.tokens) p.within) }

pub returns-in-Some-clause-walked : goal.returns-in-Some-clause-walked
returns-in-Some-clause-walked c = skip_passed _ _ _ _ c.in-Some.ensures.some c.advance.ensures.left refl c.advance.ensures.source refl
