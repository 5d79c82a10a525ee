-- Lines and characters of a text (this project's profile: a line ends with LF, and characters are
-- those of UTF-8).
use Rattle.std.specs.Prelude.{ℕ, List, [], ◌∷◌, ◌++◌, length, Bool, cond, ◌==◌, ◌||◌, nat_lt, Option, Some, None, option_map}
use Rattle.std.specs.List.{filter}

abbrev pub is_end : ℕ → Bool
is_end byte = byte == 10

-- how many lines end
abbrev pub line_ends : List ℕ → ℕ
line_ends bytes = length (filter is_end bytes)

-- the bytes before the first one that is this, or all where there is none
abbrev pub first_part : ℕ → List ℕ → List ℕ
first_part end [] = []
first_part end (b ∷ bytes) = cond (b == end) [] (b ∷ first_part end bytes)

-- the bytes before the first one that is this, and those behind it
abbrev pub parted : ℕ → List ℕ → Option (List ℕ × List ℕ)
parted end [] = None
parted end (b ∷ bytes) = cond (b == end) (Some ([], bytes))
    (option_map (λ p. (b ∷ p.0, p.1)) (parted end bytes))

-- the current part with these bytes added: the byte that is this begins a new one
abbrev pub part_after : ℕ → List ℕ → List ℕ → List ℕ
part_after end part [] = part
part_after end part (b ∷ bytes) = part_after end (cond (b == end) [] (part ++ b ∷ [])) bytes

-- the bytes after the last one that is this, or all where there is none
abbrev pub last_part : ℕ → List ℕ → List ℕ
last_part end bytes = part_after end [] bytes

abbrev pub first_line : List ℕ → List ℕ
first_line bytes = first_part 10 bytes

abbrev pub last_line : List ℕ → List ℕ
last_line bytes = last_part 10 bytes

-- any byte but the second and further ones of a character of UTF-8, which are 128 to 191
abbrev pub begins_character : ℕ → Bool
begins_character byte = nat_lt byte 128 || nat_lt 191 byte

abbrev pub characters : List ℕ → ℕ
characters bytes = length (filter begins_character bytes)
