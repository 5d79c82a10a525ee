use Rattle.std.proofs.Common.{length}
use Rattle.fz_tree.specs.declared.token.Mark.TheVariants.{ColonColon}
use Rattle.fz_syntax.specs.Walk.{Walk, lexemes}
use Rattle.fz_syntax.specs.Placed.{placed_notes}
use Rattle.fz_tree.specs.View.{bare_notes}
use Rattle.fz_syntax.specs.Reading.{any_number, note_at, notes_at}
use Rattle.fz_syntax.proofs.Running.{Continues}
use Rattle.fz_syntax.proofs.parser.cursor.Parser.notes.Given as goal

abbrev pub invariant-loop-self : goal.invariant-loop-self
invariant-loop-self l = record {
  continues : Continues ColonColon (any_number (note_at l.limits l.limits.depth)) (bare_notes l.notes.items)
      (lexemes l.self) (notes_at l.limits (lexemes l.fn.self));
  walked : Walk l.fn.self l.self (placed_notes l.notes.items);
}

abbrev pub decreases-loop-self : goal.decreases-loop-self
decreases-loop-self l = length (lexemes l.self)
