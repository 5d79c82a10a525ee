-- A literal of one token with a comma behind it is an element of a list.
use Rattle.std.proofs.Common.{◌≡◌, ◌<◌, ℕ, ℤ, true, false, List, ◌∷◌, Ok, Option, Some, None, IfSome, refl}
use Rattle.std.proofs.lemmas.Bool.{lt-leb}
use Rattle.fz_tree.specs.Token.{TokenValue, Whole, Marked}
use Rattle.fz_tree.specs.declared.token.Mark.TheVariants.{Comma}
use Rattle.fz_tree.specs.Tree.{Literal, Number, Truth}
use Rattle.fz_tree.specs.declared.tree.Literal.{Literal as TreeLiteral}
use Rattle.fz_tree.specs.View.{bare_literal}
use Rattle.fz_tree.specs.declared.limits.Limits.{Limits}
use Rattle.fz_syntax.specs.Outcome.{IsListed}
use Rattle.fz_syntax.specs.Reading.{at_most, literal_at, whole_at, from_whole}

listed_literal : (limits : Limits) (l : Literal) (before after : List TokenValue)
    → IsListed l before after → literal_at limits before ≡ Ok (l, Marked Comma ∷ after)
unfolding literal_at whole_at from_whole
listed_literal limits (Number z) before after h = rw h refl
listed_literal limits (Truth true) before after h = rw h refl
listed_literal limits (Truth false) before after h = rw h refl
listed_literal limits _ before after h = absurd h

pub listed_element : (limits : Limits) (i : ℕ) (o : Option TreeLiteral) (before after : List TokenValue)
    → i < limits.elements → IfSome o (λ l. IsListed (bare_literal l) before after)
    → IfSome o (λ l. at_most limits.elements (literal_at limits) i before ≡ Ok (bare_literal l, Marked Comma ∷ after))
listed_element limits i None before after lt h = tt
listed_element limits i (Some l) before after lt h = rw (lt-leb limits.elements i lt) (listed_literal limits (bare_literal l) before after h)

whole_front : (z : ℤ) (before rest : List TokenValue) → before ≡ Whole z ∷ rest
    → whole_at before ≡ Ok (z, rest)
unfolding whole_at
whole_front z before rest h = rw h refl

-- the same of a number in braces
pub listed_whole : (limits : Limits) (i : ℕ) (z : ℤ) (before after : List TokenValue)
    → i < limits.elements → before ≡ Whole z ∷ (Marked Comma ∷ after)
    → at_most limits.elements whole_at i before ≡ Ok (z, Marked Comma ∷ after)
listed_whole limits i z before after lt h = rw (lt-leb limits.elements i lt) (whole_front z before (Marked Comma ∷ after) h)
