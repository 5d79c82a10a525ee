use Rattle.std.proofs.Common.{◌≡◌, drop}
use Rattle.fz_meaning.specs.Meaning.{first_some}
use Rattle.fz_tree.specs.View.{bare_notes}
use Rattle.fz_places.specs.Annotations.{argument_of}
use Rattle.fz_places.proofs.annotation.argument_of.Given as goal

abbrev pub invariant-loop-note : goal.invariant-loop-note
invariant-loop-note l = first_some (argument_of l.name) (bare_notes l.notes) ≡ first_some (argument_of l.name) (bare_notes (drop l.note-index l.notes))
