use Rattle.std.proofs.Common.{◌≡◌, map, take}
use Rattle.fz_syntax.specs.View.{bare_items}
use Rattle.fz_stream.specs.Parts.{HasDistinctNames}
use Rattle.fz_stream.proofs.block.repeated_name.Given as goal

abbrev pub invariant-loop-item : goal.invariant-loop-item
invariant-loop-item l = record {
  names_are : l.names.keys ≡ map (λ p. p.name.text) (take l.item-index l.items);
  apart : HasDistinctNames (bare_items (take l.item-index l.items));
}
