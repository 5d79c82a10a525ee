use Rattle.std.proofs.Common.{◌-◌, length, map}
use Rattle.fz_syntax.specs.Walk.{Walk, lexemes}
use Rattle.fz_syntax.specs.Placed.{placed_indexes}
use Rattle.fz_tree.specs.View.{bare_literal}
use Rattle.fz_syntax.specs.ReadingItems.{index_sets_at}
use Rattle.fz_syntax.proofs.IndexSets.{Counts}
use Rattle.fz_syntax.proofs.parser.cursor.Parser.index_sets.Given as goal

abbrev pub invariant-loop-self : goal.invariant-loop-self
invariant-loop-self l = record {
  counts : Counts l.limits (l.fn.count - length l.sets.items) (map bare_literal l.sets.items)
      (lexemes l.self) (index_sets_at l.limits l.fn.count (lexemes l.fn.self));
  walked : Walk l.fn.self l.self (placed_indexes l.sets.items);
}

abbrev pub decreases-loop-self : goal.decreases-loop-self
decreases-loop-self l = l.fn.count - length l.sets.items
