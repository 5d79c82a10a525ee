use Rattle.std.proofs.Common.{◌≡◌, ℕ, ◌-◌, ◌<◌, ◌≤◌, Bool}
use Rattle.fz_kernel.specs.Indices.{all_from}
use Rattle.fz_kernel.proofs.indices.all_between.Given as goal

abbrev pub invariant-loop-index : goal.invariant-loop-index
invariant-loop-index g l = (test : ℕ → Bool)
    → ((k : ℕ) (b : Bool) → l.start ≤ k → k < l.end → goal.F-post g l.passes k b → b ≡ test k)
    → all_from test l.start (l.end - l.start) ≡ all_from test l.index (l.end - l.index)
