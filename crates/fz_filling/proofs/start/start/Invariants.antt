use Rattle.std.proofs.Common.{◌≡◌, None, take}
use Rattle.fz_index.specs.of_model.Meaning.{IsPartial, variables_of}
use Rattle.fz_filling.specs.BlockFaults.{items_fault}
use Rattle.fz_filling.specs.Filling.{printed_scalars, start_from}
use Rattle.fz_stream.specs.of_syntax.View.{bare_items}
use Rattle.fz_filling.proofs.start.start.Given as goal

abbrev pub invariant-loop-item : goal.invariant-loop-item
invariant-loop-item l = record {
  started : l.partial ≡ start_from
      (printed_scalars l.model (bare_items (take l.item-index l.items))) 0 (variables_of l.model);
  kinds : IsPartial l.model l.partial;
  clean : items_fault l.model (take l.item-index l.items) ≡ None;
}
