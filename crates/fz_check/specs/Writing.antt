-- What a writer gets where a write fails, or where some of the bytes wait (this project's profile).
use Rattle.std.specs.Prelude.{◌≡◌, ℕ, List, ◌++◌, Option}
use Rattle.std.specs.Io.KnownBytes.{Appends}

-- behind the old bytes come some of which this is so
abbrev pub Adds : (List ℕ → Type 0) → List ℕ → List ℕ → Type 0
Adds so old new = (bytes : List ℕ) × (new ≡ old ++ bytes) × so bytes

-- a front of the bytes was written, and nothing else
pub record WritesFront (old new : Option (List ℕ)) (bytes : List ℕ) : Type 0 where
  pub front : List ℕ
  pub rest : List ℕ
  pub whole : bytes ≡ front ++ rest
  pub appends : Appends old new front

-- all of the bytes but the rest were written, and nothing else
pub record Wrote (old new : Option (List ℕ)) (bytes rest : List ℕ) : Type 0 where
  pub front : List ℕ
  pub whole : bytes ≡ front ++ rest
  pub appends : Appends old new front
