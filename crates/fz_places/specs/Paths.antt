-- Where in a MiniZinc model a constraint is from, by the path to it that the compiler writes (this
-- project's profile). A path is a list of segments, the outermost first, and each is
--     FILE|LINE|COLUMN|LINE|COLUMN|WHAT;
-- with the first and the last position of what is there, such as `ca|forall`. Of a loop variable
-- WHAT is its name, a sign of equality, and its value.
use Rattle.std.specs.Prelude.{◌≡◌, ℕ, ◌-◌, ◌<◌, ◌≤◌, ◌⊎◌, Bool, true, not, ◌&&◌, ◌==◌, cond, nat_eq, nat_le, List, [], ◌∷◌, ◌++◌, length, take, map, Option, Some, None, bytes_eq}
use Rattle.std.specs.List.{list_all, filter, list_any}
use Rattle.fz_places.specs.Lines.{first_part, last_part}
use Rattle.fz_places.specs.declared.path.ModelPlace.{ModelPlace}
use Rattle.fz_places.specs.declared.path.Segment.{Segment}

abbrev pub barred : List ℕ → List ℕ → List ℕ
barred part rest = part ++ 124 ∷ rest

abbrev pub segment_text : Segment → List ℕ
segment_text s = barred s.file.now (barred s.line.now (barred s.column.now
    (barred s.end_line.now (barred s.end_column.now (s.what.now ++ 59 ∷ [])))))

abbrev pub is_digit : ℕ → Bool
is_digit byte = nat_le 48 byte && nat_le byte 57

-- one digit at least, and nothing else
abbrev pub IsNumber : List ℕ → Type 0
IsNumber text = (0 < length text) × (list_all is_digit text ≡ true)

-- its positions are numbers, and WHAT has no semicolon
pub record IsSegment (s : Segment) : Type 0 where
  pub line : IsNumber s.line.now
  pub column : IsNumber s.column.now
  pub end_line : IsNumber s.end_line.now
  pub end_column : IsNumber s.end_column.now
  pub what : list_all (λ b. not (b == 59)) s.what.now ≡ true

-- The first segment of a text, and what comes behind it. A file may have bars and semicolons: of
-- all segments with which a text begins the first one is that with the shortest file. So where a
-- text begins with one whose file has no bar, it is this one.
pub record BeginsWith (whole : List ℕ) (s : Segment) (behind : List ℕ) : Type 0 where
  pub form : IsSegment s
  pub text : segment_text s ++ behind ≡ whole
  pub shortest : (other : Segment) (rest : List ℕ) → IsSegment other
      → segment_text other ++ rest ≡ whole → length s.file.now ≤ length other.file.now

-- the segments of a path, one behind another to its end
abbrev pub AreSegmentsOf : List ℕ → List Segment → Type 0
AreSegmentsOf path [] = path ≡ []
AreSegmentsOf path (s ∷ ss) =
    (behind : List ℕ) × BeginsWith path s behind × AreSegmentsOf behind ss

-- A text is one segment. All that is before the last segment of a path could be a part of its file,
-- so a text is segments just where it is one.
pub record HasForm (whole : List ℕ) : Type 0 where
  pub segment : Segment
  pub form : IsSegment segment
  pub text : segment_text segment ≡ whole

-- the file that a path names, without its folders, and these
abbrev pub name_of : List ℕ → List ℕ
name_of file = last_part 47 file

abbrev pub folder_of : List ℕ → List ℕ
folder_of file = take (length file - length (name_of file)) file

-- a sign of equality before any bar
abbrev pub is_loop : Segment → Bool
is_loop s = list_any (λ b. b == 61) (first_part 124 s.what.now)

-- the model's own files are the first one and those beside it; a segment without a file is in none
abbrev pub is_own : List ℕ → Segment → Bool
is_own first s = not (nat_eq (length s.file.now) 0)
    && bytes_eq (folder_of s.file.now) (folder_of first)

abbrev pub is_own_loop : List ℕ → Segment → Bool
is_own_loop first s = is_own first s && is_loop s

-- the last segment in the model's own files that is no loop variable
abbrev pub innermost : List ℕ → Option Segment → List Segment → Option Segment
innermost first place [] = place
innermost first place (s ∷ ss) =
    innermost first (cond (is_own first s && not (is_loop s)) (Some s) place) ss

-- the file without its folders, where no other file of the path has that name
abbrev pub is_alike : List ℕ → Segment → Bool
is_alike file s = bytes_eq (name_of s.file.now) (name_of file) && not (bytes_eq s.file.now file)

abbrev pub short_name : List Segment → List ℕ → List ℕ
short_name ss file = cond (list_any (is_alike file) ss) file (name_of file)

-- the place in the model, and the loop variables in its own files
pub record IsPlaceIn (ss : List Segment) (first : List ℕ) (p : ModelPlace) : Type 0 where
  pub segment : Segment
  pub innermost : innermost first None ss ≡ Some segment
  pub file : p.file.now ≡ short_name ss segment.file.now
  pub line : p.line.now ≡ segment.line.now
  pub column : p.column.now ≡ segment.column.now
  pub loops : map (λ w. w.now) p.loops.items ≡ map (λ s. s.what.now) (filter (is_own_loop first) ss)

-- the same in a path
pub record IsPlaceOf (path : List ℕ) (p : ModelPlace) : Type 0 where
  pub outermost : Segment
  pub others : List Segment
  pub segments : AreSegmentsOf path (outermost ∷ others)
  pub is : IsPlaceIn (outermost ∷ others) outermost.file.now p

-- no place is in a path that is of another form, or of which each own segment is a loop variable
pub record IsNowhere (path : List ℕ) : Type 0 where
  pub outermost : Segment
  pub others : List Segment
  pub segments : AreSegmentsOf path (outermost ∷ others)
  pub none : innermost outermost.file.now None (outermost ∷ others) ≡ None

abbrev pub HasNoPlace : List ℕ → Type 0
HasNoPlace path = (HasForm path → ⊥) ⊎ IsNowhere path
