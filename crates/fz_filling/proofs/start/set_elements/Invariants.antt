use Rattle.std.proofs.Common.{◌≡◌, drop, length, map}
use Rattle.fz_index.specs.of_model.Shown.{scalar_terms}
use Rattle.fz_index.specs.of_model.Slots.{slot_term}
use Rattle.fz_index.specs.of_model.Names.{literal_value}
use Rattle.fz_stream.specs.of_syntax.View.{bare_literal}
use Rattle.fz_filling.specs.Filling.{pairs}
use Rattle.fz_filling.specs.Working.{with_all}
use Rattle.fz_filling.proofs.start.set_elements.Given as goal

abbrev pub invariant-loop-slot : goal.invariant-loop-slot
invariant-loop-slot l = record {
  given : with_all l.fn.partial (pairs (scalar_terms l.list)
      (map literal_value (map bare_literal l.literals)))
      ≡ with_all l.partial (pairs (map (slot_term l.list.constants.now) (drop (length l.yielded) l.list.slots.now)) (map literal_value (map bare_literal (drop (length l.yielded) l.literals))));
  long : length l.partial ≡ length l.fn.partial;
}
