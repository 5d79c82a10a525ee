use Rattle.std.proofs.Common.{length, map}
use Rattle.fz_syntax.specs.Walk.{Walk, lexemes}
use Rattle.std.specs.List.{flat_map}
use Rattle.fz_syntax.specs.Placed.{placed_printed}
use Rattle.fz_tree.specs.View.{bare_printed}
use Rattle.fz_syntax.specs.Reading.{many_at, any_number, is_name}
use Rattle.fz_syntax.specs.ReadingItems.{printed_at}
use Rattle.fz_syntax.proofs.Running.{Gathers}
use Rattle.fz_syntax.proofs.parser.cursor.Parser.printed_items.Given as goal

abbrev pub invariant-loop-self : goal.invariant-loop-self
invariant-loop-self l = record {
  gathers : Gathers is_name (any_number (printed_at l.limits)) (map bare_printed l.items.items)
      (lexemes l.self) (many_at is_name (any_number (printed_at l.limits)) 0 (lexemes l.fn.self));
  walked : Walk l.fn.self l.self (flat_map placed_printed l.items.items);
}

abbrev pub decreases-loop-self : goal.decreases-loop-self
decreases-loop-self l = length (lexemes l.self)
