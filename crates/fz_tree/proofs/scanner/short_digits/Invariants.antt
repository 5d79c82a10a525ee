use Rattle.std.proofs.Common.{◌≡◌, ◌+◌, ◌-◌, ◌^◌, ◌<◌, ◌≤◌, length, take, drop}
use Rattle.fz_tree.specs.Scan.{digits_len}
use Rattle.fz_tree.specs.Token.{number_of}
use Rattle.fz_tree.proofs.scanner.short_digits.Given as goal

abbrev pub invariant-loop-len : goal.invariant-loop-len
invariant-loop-len l = record {
  run : l.len + digits_len 10 (drop l.len l.bytes) ≡ digits_len 10 l.bytes;
  within : l.len ≤ length l.bytes;
  number : l.value ≡ number_of 10 (take l.len l.bytes);
  small : l.value < 2 ^ 63;
}

abbrev pub decreases-loop-len : goal.decreases-loop-len
decreases-loop-len l = length l.bytes - l.len
