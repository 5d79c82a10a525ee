use Rattle.std.proofs.Common.{length}
use Rattle.fz_tree.specs.declared.token.Mark.TheVariants.{Comma}
use Rattle.fz_syntax.specs.Walk.{Passed, lexemes}
use Rattle.fz_syntax.specs.Reading.{listed_index, separated_at}
use Rattle.fz_syntax.proofs.Running.{Continues}
use Rattle.fz_syntax.proofs.parser.cursor.Parser.indexes.Given as goal

abbrev pub invariant-loop-self : goal.invariant-loop-self
invariant-loop-self l = record {
  continues : Continues Comma (listed_index l.limits) l.indexes.items (lexemes l.self)
      (separated_at (listed_index l.limits) (lexemes l.fn.self));
  walked : Passed l.fn.self l.self;
}

abbrev pub decreases-loop-self : goal.decreases-loop-self
decreases-loop-self l = length (lexemes l.self)
