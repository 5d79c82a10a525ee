use Rattle.std.proofs.Common.{◌≤◌, length, map}
use Rattle.std.specs.List.{flat_map}
use Rattle.fz_syntax.specs.Walk.{Walk, lexemes}
use Rattle.fz_syntax.specs.Reading.{separated_at}
use Rattle.fz_syntax.proofs.Running.{Wants}
use Rattle.fz_syntax.proofs.Walks.{with_comma}
use Rattle.fz_syntax.proofs.parser.cursor.Parser.separated.Given as goal

abbrev pub invariant-elements : goal.invariant-elements
invariant-elements g l = record {
  wants : Wants (g.E.Element.reading l.limits) (map g.E.Element.bare l.list.items)
      (lexemes l.self) (separated_at (g.E.Element.reading l.limits) (lexemes l.fn.self));
  walked : Walk l.fn.self l.self (flat_map (with_comma g.E.Element.placed) l.list.items);
}

abbrev pub decreases-elements : goal.decreases-elements
decreases-elements g l = length (lexemes l.self)

abbrev pub invariant-quick : goal.invariant-quick
invariant-quick g l = record {
  wants : Wants (g.E.Element.reading l.limits) (map g.E.Element.bare l.list.items)
      (lexemes l.self) (separated_at (g.E.Element.reading l.limits) (lexemes l.fn.self));
  shorter : length (lexemes l.self) ≤ length (lexemes l.initial.self);
  walked : Walk l.fn.self l.self (flat_map (with_comma g.E.Element.placed) l.list.items);
}

abbrev pub decreases-quick : goal.decreases-quick
decreases-quick g l = length (lexemes l.self)
