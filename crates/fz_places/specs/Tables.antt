-- The table of names that the MiniZinc compiler writes (this project's profile; its option
-- `--output-paths-to-file`). A line has three columns, between tabs: a name in FlatZinc, or the
-- number of a constraint, from 0; the name in the model; and the path there. It ends with LF or
-- with CR LF, the last one also without.
use Rattle.std.specs.Prelude.{◌≡◌, ℕ, ◌+◌, ◌==◌, cond, List, [], ◌∷◌, map, length, Option, Some, None, option_map, is_none, is_some, bytes_eq, ⊤}
use Rattle.std.specs.List.{find}
use Rattle.std.specs.Option.{option_and_then}
use Rattle.fz_tree.specs.declared.span.Span.{Span}
use Rattle.fz_places.specs.Lines.{parted}
use Rattle.fz_places.specs.declared.names.NameLine.{NameLine}
use Rattle.fz_places.specs.declared.names.NameTable.{NameTable}
use Rattle.fz_places.specs.declared.names.TableError.{TableError}
use Rattle.fz_places.specs.declared.names.TableError.TheVariants.{Columns, Memory}
use Rattle.std.specs.Io.BufRead.{strip_last}

pub record Row : Type 0 where
  pub name : List ℕ
  pub model_name : List ℕ
  pub path : List ℕ

abbrev pub row_of : NameLine → Row
row_of l = record { name = l.name.now; model_name = l.model_name.now; path = l.path.now }

-- the lines of a text, without LF
abbrev pub onto_line : ℕ → List (List ℕ) → List (List ℕ)
onto_line b [] = (b ∷ []) ∷ []
onto_line b (line ∷ lines) = (b ∷ line) ∷ lines

abbrev pub lines : List ℕ → List (List ℕ)
lines [] = []
lines (b ∷ text) = cond (b == 10) ([] ∷ lines text) (onto_line b (lines text))

-- the three columns of a line, of which no one has a tab
abbrev pub columns : List ℕ → Option Row
columns line = option_and_then (λ a. option_and_then (λ b. cond (is_none (parted 9 b.1))
    (Some (record { name = a.0; model_name = b.0; path = b.1 })) None) (parted 9 a.1))
    (parted 9 line)

-- the same without a CR at the end
abbrev pub row_in : List ℕ → Option Row
row_in line = columns (strip_last 13 line)

-- the rows of lines, where each line is one
abbrev pub rows_of : List (List ℕ) → Option (List Row)
rows_of [] = Some []
rows_of (line ∷ lines) =
    option_and_then (λ row. option_map (λ rows. row ∷ rows) (rows_of lines)) (row_in line)

abbrev pub table : List ℕ → Option (List Row)
table text = rows_of (lines text)

-- the byte range of the first of these lines that is no row, where they begin at this byte
abbrev pub fault_from : ℕ → List (List ℕ) → Option Span
fault_from at [] = None
fault_from at (line ∷ lines) = cond (is_some (row_in line))
    (fault_from (at + length line + 1) lines)
    (Some (record { start = at; end = at + length line }))

abbrev pub fault : List ℕ → Option Span
fault text = fault_from 0 (lines text)

-- that line is why the text is refused, unless memory ran out
abbrev pub IsFault : List ℕ → TableError → Type 0
IsFault text (Columns span) = fault text ≡ Some span
IsFault text Memory = ⊤

-- the rows that are read, and the first one of a name
abbrev pub rows_in : NameTable → List Row
rows_in t = map row_of t.lines.items

abbrev pub row_named : List ℕ → List Row → Option Row
row_named name rows = find (λ r. bytes_eq r.name name) rows
