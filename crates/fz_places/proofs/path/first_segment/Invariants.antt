use Rattle.std.proofs.Common.{◌≡◌, ◌<◌, ℕ, None, drop}
use Rattle.fz_places.specs.Segments.{behind_segment}
use Rattle.fz_places.proofs.path.first_segment.Given as goal

abbrev pub invariant-loop-length : goal.invariant-loop-length
invariant-loop-length l = (n : ℕ) → n < l.length → behind_segment (drop n l.text) ≡ None
