use Rattle.std.proofs.Common.{◌≡◌, ◌≤◌, length, drop}
use Rattle.fz_meaning.proofs.text.same_bytes.Given as goal

abbrev pub invariant-comparing : goal.invariant-comparing
invariant-comparing l = record { inside : l.place ≤ length l.left; same : drop l.place l.left ≡ drop l.place l.right }

abbrev pub decreases-comparing : goal.decreases-comparing
decreases-comparing l = l.place
