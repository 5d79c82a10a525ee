use Rattle.std.proofs.Common.{◌≡◌, None, take}
use Rattle.fz_store.specs.of_meaning.Meaning.{first_some}
use Rattle.fz_tree.specs.View.{bare_notes}
use Rattle.fz_store.specs.of_meaning.Names.{defined_by}
use Rattle.fz_data.specs.Scope.{place_in}
use Rattle.fz_data.proofs.posting.target_of.Given as goal

abbrev pub invariant-loop-note : goal.invariant-loop-note
invariant-loop-note l = first_some (defined_by (place_in l.scope)) (bare_notes (take l.note-index l.notes)) ≡ None
