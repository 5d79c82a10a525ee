use Rattle.std.proofs.Common.{◌≡◌, ℤ, ◌≤ℤ◌, ◌<ℤ◌, false}
use Rattle.std.specs.FinSet.{contains}
use Rattle.fz_bounds.proofs.declarations.has_none_of_few.Given as goal

abbrev pub invariant-loop : goal.invariant-loop
invariant-loop l = (n : ℤ) → l.low ≤ℤ n → n <ℤ l.number → contains l.numbers n ≡ false
