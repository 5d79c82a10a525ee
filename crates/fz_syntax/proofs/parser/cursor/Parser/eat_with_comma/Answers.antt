use Rattle.std.proofs.Common.{refl, ◌≡◌, ◌≤◌, drop, sym, ap}
use Rattle.std.proofs.lemmas.List.Elements.{All-drop}
use Rattle.fz_tree.specs.Left.{left}
use Rattle.fz_syntax.proofs.Walks.{listed_pair}
use Rattle.fz_syntax.proofs.parser.cursor.Parser.eat_with_comma.Goals as goal

pub invariant_of-self : goal.invariant_of-self
invariant_of-self c =
    let p = c.args.self.now in
    let behind : left c.take_listed.new.self ≡ drop 2 (left p.tokens) = sym (ap (drop 2) c.in-Some.ensures.taken) in
    record { within = rw behind (All-drop (λ t. (t.start ≤ t.end) × (t.end ≤ p.end)) 2 (left p.tokens) p.within) }

pub returns-in-Some-clause-walked : goal.returns-in-Some-clause-walked
returns-in-Some-clause-walked c = listed_pair _ _ c.in-Some.listed c.in-Some.ensures.taken refl c.in-Some.ensures.source refl
