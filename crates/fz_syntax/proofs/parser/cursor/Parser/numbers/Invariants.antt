use Rattle.std.proofs.Common.{◌≤◌, length}
use Rattle.fz_syntax.specs.Walk.{Passed, lexemes}
use Rattle.fz_syntax.specs.Reading.{at_most, separated_at, whole_at}
use Rattle.fz_syntax.proofs.Running.{Wants}
use Rattle.fz_syntax.proofs.parser.cursor.Parser.numbers.Given as goal

abbrev pub invariant-numbers : goal.invariant-numbers
invariant-numbers l = record {
  wants : Wants (at_most l.limits.elements whole_at) l.numbers.items (lexemes l.self)
      (separated_at (at_most l.limits.elements whole_at) (lexemes l.fn.self));
  walked : Passed l.fn.self l.self;
}

abbrev pub decreases-numbers : goal.decreases-numbers
decreases-numbers l = length (lexemes l.self)

abbrev pub invariant-listed : goal.invariant-listed
invariant-listed l = record {
  wants : Wants (at_most l.limits.elements whole_at) l.numbers.items (lexemes l.self)
      (separated_at (at_most l.limits.elements whole_at) (lexemes l.fn.self));
  shorter : length (lexemes l.self) ≤ length (lexemes l.initial.self);
  walked : Passed l.fn.self l.self;
}

abbrev pub decreases-listed : goal.decreases-listed
decreases-listed l = length (lexemes l.self)
