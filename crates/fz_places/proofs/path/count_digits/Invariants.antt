use Rattle.std.proofs.Common.{◌≡◌, ◌+◌, drop}
use Rattle.std.specs.List.{prefix_len}
use Rattle.fz_places.specs.Paths.{is_digit}
use Rattle.fz_places.proofs.path.count_digits.Given as goal

abbrev pub invariant-loop-place : goal.invariant-loop-place
invariant-loop-place l = prefix_len is_digit l.text ≡ l.place + prefix_len is_digit (drop l.place l.text)
