use Rattle.std.proofs.Common.{◌≡◌, drop, length, map}
use Rattle.fz_index.specs.of_model.Shown.{scalar_terms}
use Rattle.fz_index.specs.of_model.Slots.{slot_term}
use Rattle.fz_index.specs.of_model.Names.{literal_value}
use Rattle.fz_stream.specs.of_syntax.View.{bare_literal}
use Rattle.fz_filling.specs.Working.{have_values}
use Rattle.fz_filling.proofs.printed.have_values.Given as goal

abbrev pub invariant-loop-slot : goal.invariant-loop-slot
invariant-loop-slot l =
    have_values l.partial (scalar_terms l.list) (map literal_value (map bare_literal l.literals))
    ≡ have_values l.partial (map (slot_term l.list.constants.now) (drop (length l.yielded) l.list.slots.now)) (map literal_value (map bare_literal (drop (length l.yielded) l.literals)))
