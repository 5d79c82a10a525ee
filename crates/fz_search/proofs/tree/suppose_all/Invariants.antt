use Rattle.std.specs.Prelude.{◌≡◌, false}
use Rattle.fz_search.proofs.tree.suppose_all.Given as goal

abbrev pub invariant-loop-number : goal.invariant-loop-number
invariant-loop-number l = l.supposes ≡ false → l.bounds ≡ l.fn.bounds
