use Rattle.std.proofs.Common.{◌≡◌, ◌≤◌, ℕ, List, take, drop}
use Rattle.fz_places.specs.Lines.{last_part, part_after}
use Rattle.fz_places.proofs.lines.part_start.Given as goal

pub record Started (end : ℕ) (bytes : List ℕ) (start index : ℕ) : Type 0 where
  pub line : last_part end bytes ≡ part_after end (drop start (take index bytes)) (drop index bytes)
  pub within : start ≤ index

abbrev pub invariant-loop-index : goal.invariant-loop-index
invariant-loop-index l = Started l.end l.bytes l.start l.index
