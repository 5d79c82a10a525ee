-- What an explanation says of variables (this project's profile).
use Rattle.std.specs.Prelude.{◌≡◌, ◌-◌, ℕ, List, ◌++◌, length, take, drop, cond, nat_le}
use Rattle.fz_filling.specs.of_model.Meaning.{Partial, value_at}
use Rattle.fz_explain.specs.Sources.{source_of}
use Rattle.fz_explain.specs.declared.explained.Explained.{Explained}

-- a variable with its value under a filling that took these steps, and where that comes from
pub record IsTold (F : Partial) (steps : List (ℕ × ℕ)) (n : ℕ) (e : Explained) : Type 0 where
  pub variable : e.variable ≡ n
  pub value : e.value ≡ value_at F n
  pub source : e.source ≡ source_of F steps n

-- all of the variables where they are at most twelve, or else the first eight and the last four
abbrev pub shortened : List ℕ → List ℕ
shortened ns = cond (nat_le (length ns) 12) ns (take 8 ns ++ drop (length ns - 4) ns)
