-- What a constraint's name means: a row of the table as the code names it.
use Rattle.std.specs.Prelude.{◌==◌, ⊤, ℕ, List, [], ◌∷◌, length, map, filter, flat_map, Option, codes, find}
use Rattle.fz_meaning.specs.Builtins.{Row, Shape as Kinds, builtins, implied, is_named, reified, row_at, rows}
use Rattle.fz_meaning.specs.Builtins.Shape.{ScalarOf, ArrayOf}
use Rattle.fz_meaning.specs.Results.{Result}
use Rattle.fz_meaning.specs.Results.Result.{NoResult, Places, UnitTerm}
use Rattle.fz_meaning.specs.declared.builtin.Builtin.{Builtin}
use Rattle.fz_meaning.specs.declared.known.Form.{Form}
use Rattle.fz_meaning.specs.declared.known.Form.TheVariants.{Base, Reified, Implied}
use Rattle.fz_meaning.specs.declared.known.Known.{Known}
use Rattle.fz_meaning.specs.declared.row.Filled.{Filled}
use Rattle.fz_meaning.specs.declared.row.Filled.TheVariants.{Nothing, At, Either, UnitTerm as OneTerm}
use Rattle.fz_meaning.specs.declared.row.Shape.{Shape}
use Rattle.fz_meaning.specs.declared.row.Shape.TheVariants.{Scalar, Array}

-- the row of a name
unfoldable pub row_named : List ℕ → Option Row
row_named x = find (is_named x) rows

-- the names of base rows, and those that are so long, each with its builtin
abbrev pub names_of : Builtin → List (List ℕ × Builtin)
names_of b = map (λ x. (x, b)) (row_at b).names

abbrev pub named_so_long : ℕ → List (List ℕ × Builtin)
named_so_long n = filter (λ e. length e.0 == n) (flat_map names_of builtins)

-- a form of a base row, and its suffix
abbrev pub form_at : Form → Row → Row
form_at Base r = r
form_at Reified r = reified r
form_at Implied r = implied r

abbrev pub suffix_of : Form → List ℕ
suffix_of Base = []
suffix_of Reified = codes "_reif"
suffix_of Implied = codes "_imp"

-- the form is reified
abbrev pub HasTruth : Form → Type 0
HasTruth Base = ⊥
HasTruth Reified = ⊤
HasTruth Implied = ⊤

abbrev pub known_row : Known → Row
known_row k = form_at k.form (row_at k.builtin)

-- the kinds of an argument, and what may be filled, as the table has them
abbrev pub shape_of : Shape → Kinds
shape_of (Scalar k) = ScalarOf k
shape_of (Array k) = ArrayOf k

abbrev pub as_result : Filled → Result
as_result Nothing = NoResult
as_result (At n) = Places (n ∷ [])
as_result (Either m n) = Places (m ∷ n ∷ [])
as_result OneTerm = UnitTerm
