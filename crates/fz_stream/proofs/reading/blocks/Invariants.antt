use Rattle.std.proofs.Common.{length, ◌-◌, map}
use Rattle.std.specs.List.{AllByRecursion}
use Rattle.fz_stream.specs.Found.{block_of, HasPlaces, EndsWithin}
use Rattle.fz_stream.proofs.SoFar.{ReadSoFar}
use Rattle.fz_stream.proofs.reading.blocks.Given as goal

abbrev pub invariant-loop-at : goal.invariant-loop-at
invariant-loop-at l = record {
  so_far : ReadSoFar l.stream l.begun l.at (map block_of l.blocks.items) l.claims.items;
  places : AllByRecursion HasPlaces l.blocks.items;
  within : AllByRecursion (EndsWithin (length l.stream)) l.blocks.items;
}

abbrev pub decreases-loop-at : goal.decreases-loop-at
decreases-loop-at l = length l.stream - l.at
