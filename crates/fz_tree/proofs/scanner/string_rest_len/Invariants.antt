use Rattle.std.proofs.Common.{◌≡◌, ◌+◌, ◌-◌, length, drop, option_map}
use Rattle.fz_tree.specs.Scan.{string_rest_len}
use Rattle.fz_tree.proofs.scanner.string_rest_len.Given as goal

abbrev pub invariant-loop-len : goal.invariant-loop-len
invariant-loop-len l = option_map (λ n. l.len + n) (string_rest_len (drop l.len l.bytes)) ≡ string_rest_len l.bytes

abbrev pub decreases-loop-len : goal.decreases-loop-len
decreases-loop-len l = length l.bytes - l.len
