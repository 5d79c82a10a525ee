-- How the code stores a base row (private functions only).
use Rattle.std.specs.Prelude.{◌≡◌, ℕ, List, [], ◌∷◌, map}
use Rattle.fz_meaning.specs.Builtins.{Row, builtins, row_at, with_bool}
use Rattle.fz_meaning.specs.declared.row.BaseRow.{BaseRow}
use Rattle.fz_meaning.specs.declared.row.Lengths.{Lengths}
use Rattle.fz_meaning.specs.declared.row.Lengths.TheVariants.{Free, Equal, Summed, Packed, Raised, Shaped}
use Rattle.fz_meaning.specs.declared.row.Matrix.{Matrix}
use Rattle.fz_meaning.specs.declared.row.Matrix.TheVariants.{Absent}
use Rattle.fz_meaning.specs.declared.row.Wide.{Wide}
use Rattle.fz_meaning.specs.declared.row.Wide.TheVariants.{Products, Power}
use Rattle.fz_meaning.specs.Known.{as_result, shape_of}
use Rattle.fz_meaning.specs.Results.{result_of}

-- the arrays of equal lengths, the numbers that are computed in 128 bits, and the matrix
abbrev pub together_in : Lengths → List ℕ
together_in Free = []
together_in (Equal places) = places.now
together_in Summed = 0 ∷ 1 ∷ []
together_in Packed = 0 ∷ 1 ∷ 2 ∷ []
together_in Raised = []
together_in (Shaped matrix) = []

abbrev pub wide_in : Lengths → List Wide
wide_in Free = []
wide_in (Equal places) = []
wide_in Summed = Products 0 1 ∷ []
wide_in Packed = Products 0 2 ∷ Products 1 2 ∷ []
wide_in Raised = Power 0 1 ∷ []
wide_in (Shaped matrix) = []

abbrev pub matrix_in : Lengths → Matrix
matrix_in (Shaped matrix) = matrix
matrix_in _ = Absent

-- the kinds with the Boolean of the reified forms last, the result, and the row's other fields
pub record IsData (kept : BaseRow) (r : Row) : Type 0 where
  pub shapes : map shape_of kept.0.now ≡ with_bool r.shapes
  pub filled : as_result kept.1 ≡ result_of r
  pub together : together_in kept.2 ≡ r.together
  pub wide : wide_in kept.2 ≡ r.wide
  pub matrix : matrix_in kept.2 ≡ r.matrix
  pub has_forms : kept.3 ≡ r.has_forms

-- the rows are those of the builtins, in the order of the table
pub record AreData (rows : List BaseRow) : Type 0 where
  pub shapes : map (λ k. map shape_of k.0.now) rows
      ≡ map (λ b. with_bool (row_at b).shapes) builtins
  pub filled : map (λ k. as_result k.1) rows ≡ map (λ b. result_of (row_at b)) builtins
  pub together : map (λ k. together_in k.2) rows ≡ map (λ b. (row_at b).together) builtins
  pub wide : map (λ k. wide_in k.2) rows ≡ map (λ b. (row_at b).wide) builtins
  pub matrix : map (λ k. matrix_in k.2) rows ≡ map (λ b. (row_at b).matrix) builtins
  pub has_forms : map (λ k. k.3) rows ≡ map (λ b. (row_at b).has_forms) builtins
