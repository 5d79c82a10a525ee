use Rattle.std.proofs.Common.{◌≡◌}
use Rattle.fz_store.proofs.Tabled.{forgotten}
use Rattle.fz_store.proofs.partial.forget.Given as goal

abbrev pub invariant-loop-value : goal.invariant-loop-value
invariant-loop-value l = l.values ≡ forgotten l.value-index l.fn.values
