use Rattle.std.proofs.Common.{◌≡◌, length}
use Rattle.std.specs.Prelude.{bytes_eq}
use Rattle.fz_meaning.proofs.text.same_text.Given as goal

abbrev pub invariant-eights : goal.invariant-eights
invariant-eights l = record { long : length l.left_rest ≡ length l.right_rest; same : bytes_eq l.left_rest l.right_rest ≡ bytes_eq l.left l.right }

abbrev pub decreases-eights : goal.decreases-eights
decreases-eights l = length l.left_rest
