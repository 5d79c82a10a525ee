-- The arguments of a constraint between those that bounds give, read as its row asks (private
-- functions only).
use Rattle.std.specs.Prelude.{ℕ, suc, Bool, not, ◌||◌, List, [], ◌∷◌, int_le, IsTrue, ⊤}
use Rattle.fz_model.specs.declared.Kind.{Kind}
use Rattle.fz_model.specs.declared.Kind.TheVariants.{Int as IntKind, Bool as BoolKind, Set as SetKind}
use Rattle.fz_model.specs.Relations.{◌=ˢ◌}
use Rattle.fz_model.specs.Builtins.{Of, Plain, Shape}
use Rattle.fz_model.specs.Builtins.Shape.{ScalarOf, ArrayOf}
use Rattle.fz_model.specs.Meaning.{Argument, Partial}
use Rattle.fz_model.specs.of_builtins.Outcomes.{argument_at}

-- of two readings of a scalar of a kind, the first is at most the second
abbrev pub at_most : (k : Kind) → Plain k → Plain k → Bool
at_most IntKind a b = int_le a b
at_most BoolKind a b = not a || b
at_most SetKind a b = a =ˢ b

-- the same of each element, of lists of equal lengths
abbrev pub AreAtMost : (k : Kind) → List (Plain k) → List (Plain k) → Type 0
AreAtMost k [] [] = ⊤
AreAtMost k (a ∷ as') (b ∷ bs) = IsTrue (at_most k a b) × AreAtMost k as' bs
AreAtMost k _ _ = ⊥

abbrev pub IsAtMost : (s : Shape) → Of s → Of s → Type 0
IsAtMost (ScalarOf k) a b = IsTrue (at_most k a b)
IsAtMost (ArrayOf k) as' bs = AreAtMost k as' bs

-- each argument from an index on is under the first at most what it is under the second
abbrev pub AreBelow : ℕ → Partial → Partial → List Argument → List Shape → Type 0
AreBelow i K L xs [] = ⊤
AreBelow i K L xs (s ∷ ss) =
    IsAtMost s (argument_at K xs i s) (argument_at L xs i s) × AreBelow (suc i) K L xs ss

-- each argument of the row lies between those under the first and the last
pub record AreBetween (L K H : Partial) (xs : List Argument) (ss : List Shape) : Type 0 where
  pub low : AreBelow 0 L K xs ss
  pub high : AreBelow 0 K H xs ss
