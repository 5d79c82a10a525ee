-- How names are hashed. Only private functions use this file, and nothing depends on which names
-- collide: a reader of the public contracts need not believe it.
use Rattle.std.specs.Prelude.{ℕ, List, [], ◌∷◌, ◌+◌, ◌*◌, ◌%◌, ◌^◌}

-- the state with the first byte of what is written
abbrev pub with_first : ℕ → List ℕ → ℕ
with_first state [] = state
with_first state (first ∷ rest) = (state * 257 % 2 ^ 64 + first) % 2 ^ 64
