use Rattle.std.proofs.Common.{◌≡◌, ◌+◌, ◌-◌, ◌^◌, ◌≤◌, min, length, take, drop}
use Rattle.fz_tree.specs.Scan.{digits_len}
use Rattle.fz_tree.specs.Token.{number_of}
use Rattle.fz_tree.proofs.scanner.digits.Given as goal

abbrev pub invariant-loop-len : goal.invariant-loop-len
invariant-loop-len l =
    (l.len + digits_len l.base (drop l.len l.bytes) ≡ digits_len l.base l.bytes) × (l.len ≤ length l.bytes) × (l.value ≡ min (number_of l.base (take l.len l.bytes)) (2 ^ 64 - 1))

abbrev pub decreases-loop-len : goal.decreases-loop-len
decreases-loop-len l = length l.bytes - l.len
