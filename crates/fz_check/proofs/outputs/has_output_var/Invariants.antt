use Rattle.std.proofs.Common.{◌≡◌, drop}
use Rattle.std.specs.List.{list_any}
use Rattle.fz_filling.specs.of_syntax.View.{bare_notes}
use Rattle.fz_check.specs.Outputs.{is_output_var}
use Rattle.fz_check.proofs.outputs.has_output_var.Given as goal

abbrev pub invariant-loop-note : goal.invariant-loop-note
invariant-loop-note l = list_any is_output_var (bare_notes l.notes) ≡ list_any is_output_var (bare_notes (drop l.note-index l.notes))
