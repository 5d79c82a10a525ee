-- The table of names by the number that their digits make (`src/numbered.rt`). Only private
-- functions use this file, and no public clause cites it.
use Rattle.std.specs.Prelude.{◌≡◌, ℕ, zero, suc, ◌-◌, ◌+◌, ◌*◌, ◌/◌, ◌%◌, ◌^◌, ◌==◌, ltb, ◌&&◌, not, if◌then◌else◌, Bool, true, false, List, [], ◌∷◌, Option, Some, None, bytes_eq, take, slice_get, drop, length, option_map, ⊤}
use Rattle.std.specs.List.{find, fold}
use Rattle.fz_store.specs.declared.names.Citation.{Citation}
use Rattle.fz_store.specs.declared.names.Citation.TheVariants as citations
use Rattle.fz_store.specs.declared.names.Kept.{Kept}
use Rattle.fz_store.specs.Names.{is_key}
use Rattle.fz_store.specs.declared.numbered.Numbered.{Numbered}
use Rattle.fz_store.specs.declared.numbered.Shape.{Shape}
use Rattle.fz_store.specs.declared.numbered.Sort.{Sort}
use Rattle.fz_store.specs.declared.numbered.Sort.TheVariants as sorts
use Rattle.fz_store.specs.declared.numbered.Place.{Place}
use Rattle.fz_store.specs.declared.numbered.Place.TheVariants.{Free, Taken, Crowded}

-- ---- the end of a name

-- the last eight bytes of a name
abbrev pub end_of : List ℕ → List ℕ
end_of x = drop (length x - 8) x

-- the bytes before them
abbrev pub head_of : List ℕ → List ℕ
head_of x = take (length x - 8) x

abbrev pub is_digit : ℕ → Bool
is_digit b = not (ltb b 48) && not (ltb 57 b)

-- a byte, with 0 for each digit
abbrev pub mark_of : ℕ → ℕ
mark_of b = if is_digit b then 48 else b

-- a number with one more byte of a name appended, where that is a digit, in 64 bits
abbrev pub with_byte : ℕ → ℕ → ℕ
with_byte n b = if is_digit b then (n * 10 % 2 ^ 64 + (b - 48)) % 2 ^ 64 else n

-- the number that the digits among the last eight bytes of a name make
abbrev pub number_of : List ℕ → ℕ
number_of x = fold with_byte 0 (end_of x)

-- ---- a cell as 32 bits have it

-- a taken cell of this sort, with the shape and the number in the other bits
abbrev pub taken_as : Sort → ℕ → Place
taken_as s c = Taken s (c / 4 % 64) (c / 256)

-- what the two lowest bits tell: the sort, or that the cell isn't taken
abbrev pub place_as : ℕ → ℕ → Place
place_as r c = if r == 1 then taken_as sorts.Variable c else if r == 2
    then taken_as sorts.Parameter c else if r == 3 then taken_as sorts.Array c else if c == 0
    then Free else Crowded

abbrev pub unpacked : ℕ → Place
unpacked c = place_as (c % 4) c

-- the cell of a number
abbrev pub place_at : List ℕ → ℕ → Option Place
place_at ps i = option_map unpacked (slice_get ps i)

-- the bits are those of a cell with a sort, a shape and a number, or of a crowded one
abbrev pub ArePackedOf : Sort → ℕ → ℕ → Place → Type 0
ArePackedOf s k n Free = ⊥
ArePackedOf s k n (Taken t l m) = Taken s k n ≡ Taken t l m
ArePackedOf s k n Crowded = ⊤

-- ---- what is stored in the cell of a number

-- the marks of so many bytes, 0 where there are no more
abbrev pub marks_from : ℕ → List ℕ → List ℕ
marks_from zero bs = []
marks_from (suc n) [] = 0 ∷ marks_from n []
marks_from (suc n) (b ∷ bs) = mark_of b ∷ marks_from n bs

-- the marks of the end of a name
abbrev pub marks_of : List ℕ → List ℕ
marks_of x = marks_from 8 (end_of x)

-- whether a name has a shape: its length and head, and its end but for the digits
abbrev pub is_of : Shape → List ℕ → Bool
is_of s x =
    (s.len == length x) && (bytes_eq s.marks (marks_of x) && bytes_eq s.head.now (head_of x))

-- the shape of this number is the name's
abbrev pub IsShapeAt : List Shape → List ℕ → ℕ → Type 0
IsShapeAt ss x k = (s : Shape) × (slice_get ss k ≡ Some s) × (is_of s x ≡ true)

-- shapes keep their numbers
abbrev pub AreKept : List Shape → List Shape → Type 0
AreKept ss ts = (k : ℕ) (s : Shape) → slice_get ss k ≡ Some s → slice_get ts k ≡ Some s

-- the citation of a sort and a number
abbrev pub citation_of : Sort → ℕ → Citation
citation_of sorts.Variable n = citations.Variable n
citation_of sorts.Parameter n = citations.Parameter n
citation_of sorts.Array n = citations.Array n

-- the cell is taken by the name with this citation, or is crowded
abbrev pub IsPlaceOf : List Shape → List ℕ → Citation → Place → Type 0
IsPlaceOf ss x e Free = ⊥
IsPlaceOf ss x e (Taken s k n) = IsShapeAt ss x k × (citation_of s n ≡ e)
IsPlaceOf ss x e Crowded = ⊤

-- there is a cell, and it is taken by the name with this citation
abbrev pub IsTakenBy : List Shape → List ℕ → Citation → Option Place → Type 0
IsTakenBy ss x e None = ⊥
IsTakenBy ss x e (Some Free) = ⊥
IsTakenBy ss x e (Some (Taken s k n)) = IsShapeAt ss x k × (citation_of s n ≡ e)
IsTakenBy ss x e (Some Crowded) = ⊥

-- what a name that didn't get its cell leaves in it: what was there, or that it is crowded
abbrev pub IsLeft : Option Place → Option Place → Type 0
IsLeft None q = q ≡ None
IsLeft (Some Free) q = q ≡ Some Crowded
IsLeft (Some (Taken s k n)) q = q ≡ Some (Taken s k n)
IsLeft (Some Crowded) q = q ≡ Some Crowded

-- the citation, where the name has that shape
abbrev pub citation_as : Option Shape → List ℕ → Citation → Option Citation
citation_as None x e = None
citation_as (Some s) x e = if is_of s x then Some e else None

-- the citation that a cell has for a name
abbrev pub citation_at : List Shape → List ℕ → Option Place → Option Citation
citation_at ss x None = None
citation_at ss x (Some Free) = None
citation_at ss x (Some (Taken s k n)) = citation_as (slice_get ss k) x (citation_of s n)
citation_at ss x (Some Crowded) = None

-- the citation of a name, where its cell has it
abbrev pub citation_there : List Shape → List ℕ → List ℕ → Option Citation
citation_there ss ps x = citation_at ss x (place_at ps (number_of x))

abbrev pub seat_if : Option Citation → Option ℕ → Option ℕ
seat_if None j = None
seat_if (Some e) j = j

-- its index in the list of names, where its cell has it
abbrev pub seat_there : List Shape → List ℕ → List ℕ → List ℕ → Option ℕ
seat_there ss ps js x = seat_if (citation_there ss ps x) (slice_get js (number_of x))

abbrev pub is_free : Option Place → Bool
is_free None = false
is_free (Some Free) = true
is_free (Some (Taken s k n)) = false
is_free (Some Crowded) = false

-- the cell of a name's number is there and free
abbrev pub is_free_there : List ℕ → List ℕ → Bool
is_free_there ps x = is_free (place_at ps (number_of x))

-- a name is in the list with that citation, at the index that its cell has
abbrev pub IsListed : List Kept → List ℕ → List ℕ → Citation → Type 0
IsListed ks js x e = (k : Kept) × (j : ℕ) × (find (is_key x) ks ≡ Some k) × (k.citation ≡ e)
    × (slice_get js (number_of x) ≡ Some j) × (slice_get ks j ≡ Some k)

-- a name is found among the others (the hash table) as in the list
abbrev pub IsAmongOthers : List Kept → List Kept → List ℕ → Type 0
IsAmongOthers ks os x = find (is_key x) os ≡ find (is_key x) ks

-- where a name is found, by the cell of its number: nowhere, where that is free; in the list, where
-- the name has the shape in the cell; else among the others
abbrev pub StandsAt : List Kept → List Kept → Numbered → List ℕ → Option Place → Type 0
StandsAt ks os n x None = IsAmongOthers ks os x
StandsAt ks os n x (Some Free) = IsAmongOthers ks os x × (find (is_key x) ks ≡ None)
StandsAt ks os n x (Some (Taken s k i)) = (t : Shape) × (slice_get n.shapes.items k ≡ Some t)
    × (is_of t x ≡ true → IsListed ks n.seats.items x (citation_of s i))
    × (is_of t x ≡ false → IsAmongOthers ks os x)
StandsAt ks os n x (Some Crowded) = IsAmongOthers ks os x

-- each listed name is found by its shape, cell and index, or among the others
abbrev pub IsNumbered : List Kept → List Kept → Numbered → Type 0
IsNumbered ks os n = (x : List ℕ) → StandsAt ks os n x (place_at n.places.items (number_of x))
