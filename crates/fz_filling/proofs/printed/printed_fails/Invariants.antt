use Rattle.std.proofs.Common.{◌≡◌, None, map, take}
use Rattle.fz_index.specs.of_model.Meaning.{first_some}
use Rattle.fz_filling.specs.Verdict.{printed_fails}
use Rattle.fz_stream.specs.of_syntax.View.{bare_printed}
use Rattle.fz_filling.proofs.printed.printed_fails.Given as goal

abbrev pub invariant-loop-item : goal.invariant-loop-item
invariant-loop-item l = first_some (printed_fails l.model l.partial) (map bare_printed (take l.item-index l.items)) ≡ None
