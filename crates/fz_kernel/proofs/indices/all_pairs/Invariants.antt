use Rattle.std.proofs.Common.{◌≡◌, ℕ, ◌+◌, ◌-◌, ◌<◌, Bool}
use Rattle.fz_kernel.specs.Indices.{all_from, all_pairs_from}
use Rattle.fz_kernel.proofs.indices.all_pairs.Given as goal

abbrev pub invariant-loop-one : goal.invariant-loop-one
invariant-loop-one g l = (test : ℕ → ℕ → Bool)
    → ((j k : ℕ) (b : Bool) → j < k → k < l.count → goal.F-post g l.pass j k b → b ≡ test j k)
    → all_pairs_from test 0 l.count ≡ all_pairs_from test l.one (l.count - l.one)

abbrev pub invariant-loop-other : goal.invariant-loop-other
invariant-loop-other g l = (test : ℕ → ℕ → Bool)
    → ((j k : ℕ) (b : Bool) → j < k → k < l.count → goal.F-post g l.pass j k b → b ≡ test j k)
    → all_from (test l.one) (l.one + 1) (l.count - (l.one + 1))
    ≡ all_from (test l.one) l.other (l.count - l.other)
