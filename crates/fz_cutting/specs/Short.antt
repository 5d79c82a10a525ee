-- Texts of printed items whose end is missing (this project's profile).
use Rattle.std.specs.Prelude.{◌≡◌, ℕ, Bool, if◌then◌else◌, ◌==◌, List, [], ◌∷◌, ◌++◌, length, drop, reverse, map, flat_map, codes, true, Any, is_some, nat_eq, ◌⊎◌}
use Rattle.std.specs.List.{list_all, list_any, starts_with}
use Rattle.fz_syntax.specs.Limits.{Limits}
use Rattle.fz_syntax.specs.Text.{IsTextOfItemsWithin}
use Rattle.fz_syntax.specs.Tree.{Printed}
use Rattle.fz_store.specs.of_meaning.Meaning.{Model, begins_name, find_name}

abbrev pub are_declared : Model → List Printed → Bool
are_declared m items = list_all (λ i. is_some (find_name m i.name)) items

-- Within the limits the text is one of items, whose names are declared.
pub record AreItems (limits : Limits) (m : Model) (text : List ℕ) : Type 0 where
  pub items : List Printed
  pub text_of : IsTextOfItemsWithin limits text items
  pub declared : are_declared m items ≡ true

-- the name, but for its last byte, `_`, is the front of a declared one
abbrev pub IsHalf : Model → List ℕ → Type 0
IsHalf m name = (half : List ℕ) × (name ≡ half ++ codes "_") × (begins_name m half ≡ true)

-- The same, where the last name is half of a declared one.
pub record AreItemsToName (limits : Limits) (m : Model) (text : List ℕ) : Type 0 where
  pub items : List Printed
  pub last : Printed
  pub text_of : IsTextOfItemsWithin limits text (items ++ last ∷ [])
  pub declared : are_declared m items ≡ true
  pub is_half : IsHalf m last.name

-- ---- the end of an item

-- each of the first before each of the second
abbrev pub pairs : List (List ℕ) → List (List ℕ) → List (List ℕ)
pairs fronts rests = flat_map (λ f. map (λ r. f ++ r) rests) fronts

-- behind the front of a literal, which may be empty
abbrev pub literal_ends : List (List ℕ)
literal_ends = map codes ("" ∷ "1" ∷ "}" ∷ "1}" ∷ ".1" ∷ "rue" ∷ "ue" ∷ "e" ∷ "alse" ∷ "lse"
    ∷ "se" ∷ [])

-- behind the front of an index set, which may be empty, up to its comma
abbrev pub index_ends : List (List ℕ)
index_ends = map codes ("," ∷ "1," ∷ "..1," ∷ ".1," ∷ "1..1," ∷ "}," ∷ "1}," ∷ [])

-- the elements, behind the index sets that are missing before them: none to five
abbrev pub element_ends : List (List ℕ)
element_ends = map codes ("[]);" ∷ "{},[]);" ∷ "{},{},[]);" ∷ "{},{},{},[]);" ∷ "{},{},{},{},[]);"
    ∷ "{},{},{},{},{},[]);" ∷ [])

-- Behind each front of an item that has its whole name, one of these makes it whole: behind the
-- name, a literal, an element, the elements, the last index set, another one, and `array`.
abbrev pub endings : List (List ℕ)
endings = pairs literal_ends (map codes (";" ∷ "]);" ∷ []))
    ++ map codes ("=1;" ∷ ");" ∷ "[]);" ∷ "rray1d({},[]);" ∷ "ray1d({},[]);" ∷ "ay1d({},[]);"
    ∷ "y1d({},[]);" ∷ "1d({},[]);" ∷ [])
    ++ pairs (map codes ("d({}," ∷ "({}," ∷ [])) element_ends
    ++ pairs index_ends element_ends

-- ---- the last line

-- the bytes, from which those behind the last LF are taken away
abbrev pub up_to_feed : List ℕ → List ℕ
up_to_feed [] = []
up_to_feed (b ∷ bytes) = if b == 10 then (b ∷ bytes) else up_to_feed bytes

abbrev pub whole_lines : List ℕ → List ℕ
whole_lines text = reverse (up_to_feed (reverse text))

abbrev pub last_line : List ℕ → List ℕ
last_line text = drop (length (whole_lines text)) text

-- the lines that are no items: the marker, and the claims
abbrev pub signs : List (List ℕ)
signs = map codes ("----------" ∷ "==========" ∷ "=====UNSATISFIABLE=====" ∷ "=====UNKNOWN====="
    ∷ "=====UNBOUNDED=====" ∷ "=====UNSATorUNBOUNDED=====" ∷ "=====ERROR=====" ∷ [])

abbrev pub is_front_of_sign : List ℕ → Bool
is_front_of_sign line = list_any (λ sign. starts_with nat_eq sign line) signs

-- the whole lines are items whose names are declared, and the last line is the front of a sign
abbrev pub EndsInSign : Limits → Model → List ℕ → Type 0
EndsInSign limits m text =
    AreItems limits m (whole_lines text) × (is_front_of_sign (last_line text) ≡ true)

-- The text is a front of one of items whose names are declared, which is no longer than the limits
-- allow; or its whole lines are such items, and its last line is the front of a marker or a claim.
abbrev pub IsShort : Limits → Model → List ℕ → Type 0
IsShort limits m text = Any (λ ending. AreItems limits m (text ++ ending)) endings
    ⊎ (AreItemsToName limits m (text ++ codes "_=1;") ⊎ EndsInSign limits m text)
