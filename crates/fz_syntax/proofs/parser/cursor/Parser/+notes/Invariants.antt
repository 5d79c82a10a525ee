use Rattle.std.proofs.Common.{◌<◌, ◌+◌, ◌*◌, length, map}
use Rattle.fz_tree.specs.declared.token.Mark.TheVariants.{Comma}
use Rattle.fz_syntax.specs.Walk.{Walk, lexemes}
use Rattle.fz_syntax.specs.Placed.{placed_separated, placed_arg, placed_note_basic}
use Rattle.fz_tree.specs.View.{bare_arg, bare_basic}
use Rattle.fz_syntax.specs.Reading.{separated_at, any_number, at_most, note_at, note_arg_at, note_basic_at}
use Rattle.fz_syntax.proofs.Running.{Continues}
use Rattle.fz_syntax.proofs.parser.cursor.Parser.+notes.Given as goal

-- Each method of a level calls those below it in this list, and the level below begins with `note`.
abbrev pub decreases-note_args : goal.decreases-note_args
decreases-note_args l = 8 * l.depth + 7

abbrev pub decreases-separated_note_args : goal.decreases-separated_note_args
decreases-separated_note_args l = 8 * l.depth + 6

abbrev pub decreases-note_arg : goal.decreases-note_arg
decreases-note_arg l = 8 * l.depth + 5

abbrev pub decreases-note_list : goal.decreases-note_list
decreases-note_list l = 8 * l.depth + 4

abbrev pub decreases-separated_note_basics : goal.decreases-separated_note_basics
decreases-separated_note_basics l = 8 * l.depth + 3

abbrev pub decreases-listed_note_basic : goal.decreases-listed_note_basic
decreases-listed_note_basic l = 8 * l.depth + 2

abbrev pub decreases-note_basic : goal.decreases-note_basic
decreases-note_basic l = 8 * l.depth + 1

abbrev pub decreases-note : goal.decreases-note
decreases-note l = 8 * l.depth

abbrev pub invariant-separated_note_args-more_args : goal.invariant-separated_note_args-more_args
invariant-separated_note_args-more_args l = record {
  continues : Continues Comma (any_number (note_arg_at l.limits l.depth
      (note_at l.limits l.depth))) (map bare_arg l.arguments.items) (lexemes l.self)
      (separated_at (any_number (note_arg_at l.limits l.fn.depth (note_at l.limits l.fn.depth))) (lexemes l.fn.self));
  walked : Walk l.fn.self l.self (placed_separated placed_arg l.arguments.items);
  some : 0 < length l.arguments.items;
}

abbrev pub decreases-separated_note_args-more_args : goal.decreases-separated_note_args-more_args
decreases-separated_note_args-more_args l = length (lexemes l.self)

abbrev pub invariant-separated_note_basics-more_basics : goal.invariant-separated_note_basics-more_basics
invariant-separated_note_basics-more_basics l = record {
  continues : Continues Comma (at_most l.limits.elements
      (note_basic_at l.limits (note_at l.limits l.depth))) (map bare_basic l.basics.items)
      (lexemes l.self)
      (separated_at (at_most l.limits.elements (note_basic_at l.limits (note_at l.limits l.fn.depth))) (lexemes l.fn.self));
  walked : Walk l.fn.self l.self (placed_separated placed_note_basic l.basics.items);
  some : 0 < length l.basics.items;
}

abbrev pub decreases-separated_note_basics-more_basics : goal.decreases-separated_note_basics-more_basics
decreases-separated_note_basics-more_basics l = length (lexemes l.self)
