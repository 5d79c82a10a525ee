-- Elements of a list (private functions only).
use Rattle.std.specs.Prelude.{◌≡◌, ℤ, List, [], ◌∷◌, ◌⊎◌, ⊤}

-- the first list has elements of the second, in their order
abbrev pub IsPicked : List ℤ → List ℤ → Type 0
IsPicked [] xs = ⊤
IsPicked (v ∷ vs) [] = ⊥
IsPicked (v ∷ vs) (x ∷ xs) = ((v ≡ x) × IsPicked vs xs) ⊎ IsPicked (v ∷ vs) xs
