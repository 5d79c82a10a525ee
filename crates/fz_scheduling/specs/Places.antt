-- What is at an index of an array. All but `number_at`, `span_at` and `terms` serves private
-- functions only.
use Rattle.std.specs.Prelude.{ℕ, ℤ, pos, Bool, ◌&&◌, ◌||◌, List, Option, None, Some, get_or, int_le}
use Rattle.fz_kernel.specs.of_meaning.of_base.Sets.{NumberSet}
use Rattle.fz_kernel.specs.of_meaning.Relations.{◌=ℤ◌, Span, Box, marks, are_apart, is_empty_span, lie_apart, has_no_area, used_at}

-- the number at an index, and 0 past the end
abbrev pub number_at : List ℤ → ℕ → ℤ
number_at xs i = get_or xs i (pos 0)

-- what is added up along a list: its elements, or 1 for each that is in the set and 0 for others
abbrev pub terms : Option NumberSet → List ℤ → List ℤ
terms None xs = xs
terms (Some s) xs = marks s xs

-- the span that begins at the number of one list, and is as long as that of the other
abbrev pub span_at : List ℤ → List ℤ → ℕ → Span
span_at starts lengths i = (number_at starts i, number_at lengths i)

-- they have nothing in common; where empty spans are exempt, it is enough that one is empty
abbrev pub keep_apart : Bool → Span → Span → Bool
keep_apart spare a b = (spare && (is_empty_span a || is_empty_span b)) || are_apart a b

abbrev pub box_at : List ℤ → List ℤ → List ℤ → List ℤ → ℕ → Box
box_at x y width height i = (span_at x width i, span_at y height i)

-- the same of boxes, of which those with no area may be exempt
abbrev pub stand_apart : Bool → Box → Box → Bool
stand_apart spare a b = (spare && (has_no_area a || has_no_area b)) || lie_apart a b

-- at the start of a task no more is used than there is; or the task doesn't last, or uses nothing
abbrev pub keeps_within : ℤ → List (Span × ℤ) → Span × ℤ → Bool
keeps_within most tasks k = (k.0.1 =ℤ pos 0) || (k.1 =ℤ pos 0) || int_le (used_at k.0.0 tasks) most
