use Rattle.std.proofs.Common.{◌≡◌, ◌++◌, drop}
use Rattle.fz_search.specs.Subsets.{kept}
use Rattle.fz_search.proofs.subsets.kept_of.Given as goal

abbrev pub invariant-loop-number : goal.invariant-loop-number
invariant-loop-number l =
    kept l.numbers l.code ≡ l.kept.items ++ kept (drop l.number-index l.numbers) l.bits
