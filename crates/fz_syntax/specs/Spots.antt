-- The byte ranges of the names and literals of a tree in its source, in the order of reading, told
-- by its placed tokens. (This project's profile.)
use Rattle.std.specs.Prelude.{◌≡◌, ◌≤◌, ◌<◌, ℕ, List, [], ◌∷◌, Option, Some, None, IfSome, slice_range}
use Rattle.std.specs.Option.{option_or}
use Rattle.fz_tree.specs.Token.{TokenValue, Word}
use Rattle.fz_tree.specs.declared.tree.Ast.{Ast}
use Rattle.fz_tree.specs.declared.tree.Printed.{Printed}
use Rattle.fz_syntax.specs.Placed.{PlacedToken, placed_tree, placed_items}

-- The byte range of a name or a literal, and where it is one word its text.
pub record Spot : Type 0 where
  pub start : ℕ
  pub end : ℕ
  pub text : Option (List ℕ)

-- Between the two byte offsets of the source are the spots, none of them empty, one after another,
-- and the text of each word is the slice of the source at its range.
abbrev pub Stand : (source : List ℕ) → ℕ → ℕ → List Spot → Type 0
Stand source from upto [] = from ≤ upto
Stand source from upto (s ∷ spots) =
    (from ≤ s.start) × (s.start < s.end) × IfSome s.text
    (λ text. text ≡ slice_range source s.start s.end) × Stand source s.end upto spots

-- the text of a word that starts a spot
abbrev pub word_at : Option ℕ → TokenValue → Option (List ℕ)
word_at (Some start) (Word text) = Some text
word_at start token = None

-- A spot that has begun ends where a token has its end; otherwise it goes on.
abbrev pub next_spots : Option ℕ → Option ℕ → Option (List ℕ) → List Spot → List Spot → List Spot
next_spots (Some start) (Some end) text behind further =
    (record { start = start; end = end; text = text }) ∷ behind
next_spots None (Some end) text behind further = behind
next_spots begun None text behind further = further

-- The spots of placed tokens, of which the first has begun at this offset, if any has.
abbrev pub spots_from : Option ℕ → List PlacedToken → List Spot
spots_from begun [] = []
spots_from begun (t ∷ ts) = next_spots (option_or t.start begun) t.end (word_at t.start t.token)
    (spots_from None ts) (spots_from (option_or t.start begun) ts)

-- of a whole tree
abbrev pub spots : Ast → List Spot
spots a = spots_from None (placed_tree a)

-- of printed items
abbrev pub item_spots : List Printed → List Spot
item_spots items = spots_from None (placed_items items)
