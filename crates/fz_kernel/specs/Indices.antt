-- Tests of one index after another (private functions only).
use Rattle.std.specs.Prelude.{ℕ, zero, suc, ◌+◌, Bool, true, false, ◌&&◌, ◌||◌}

-- so many indices from i on pass
abbrev pub all_from : (ℕ → Bool) → ℕ → ℕ → Bool
all_from test i zero = true
all_from test i (suc n) = test i && all_from test (i + 1) n

-- of so many indices from i on, each passes with each later one
abbrev pub all_pairs_from : (ℕ → ℕ → Bool) → ℕ → ℕ → Bool
all_pairs_from test i zero = true
all_pairs_from test i (suc n) = all_from (test i) (i + 1) n && all_pairs_from test (i + 1) n

-- one of so many indices from i on passes
abbrev pub any_from : (ℕ → Bool) → ℕ → ℕ → Bool
any_from test i zero = false
any_from test i (suc n) = test i || any_from test (i + 1) n
