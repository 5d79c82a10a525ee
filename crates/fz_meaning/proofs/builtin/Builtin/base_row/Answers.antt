use Rattle.std.proofs.Common.{◌≡◌, ℕ, ◌<◌, zero, suc, List, [], ◌∷◌, length, map, get_or, Some, ap, sym, ◌∙◌, subst, arith}
use Rattle.std.specs.Prelude.{slice_get}
use Rattle.std.proofs.lemmas.List.{length-map}
use Rattle.std.proofs.lemmas.Option.{slice_get_within}
use Rattle.std.proofs.lemmas.Grind.{common_steps}
use Rattle.fz_meaning.specs.Builtins.{builtins, row_at, with_bool}
use Rattle.fz_meaning.specs.Known.{as_result, shape_of}
use Rattle.fz_meaning.specs.Results.{result_of}
use Rattle.fz_meaning.specs.TableData.{AreData, IsData, matrix_in, together_in, wide_in}
use Rattle.fz_meaning.specs.declared.builtin.Builtin.{Builtin}
use Rattle.fz_meaning.specs.declared.row.BaseRow.{BaseRow}
use Rattle.fz_meaning.proofs.builtin.Builtin.base_row.Goals as goal

-- where two lists look the same, they do at each place
same_at : {A B C : Type 0} (f : A → C) (g : B → C) (xs : List A) (ys : List B) (i : ℕ) (d : A) (y : B)
    → map f xs ≡ map g ys → slice_get ys i ≡ Some y → f (get_or xs i d) ≡ g y
same_at f g [] [] i d y e h = grind (arith, common_steps)
same_at f g [] (z ∷ ys) i d y e h = grind (arith, common_steps)
same_at f g (x ∷ xs) [] i d y e h = grind (arith, common_steps)
same_at f g (x ∷ xs) (z ∷ ys) zero d y e h = grind (arith, common_steps)
same_at f g (x ∷ xs) (z ∷ ys) (suc i) d y e h = same_at f g xs ys i d y (grind (arith, common_steps)) h

data_at : (rows : List BaseRow) (i : ℕ) (d : BaseRow) (b : Builtin) → AreData rows
    → slice_get builtins i ≡ Some b → IsData (get_or rows i d) (row_at b)
data_at rows i d b are h = record {
  shapes = same_at (λ k. map shape_of k.0.now) (λ b. with_bool (row_at b).shapes) rows builtins i d b are.shapes h;
  filled = same_at (λ k. as_result k.1) (λ b. result_of (row_at b)) rows builtins i d b are.filled h;
  together = same_at (λ k. together_in k.2) (λ b. (row_at b).together) rows builtins i d b are.together h;
  wide = same_at (λ k. wide_in k.2) (λ b. (row_at b).wide) rows builtins i d b are.wide h;
  matrix = same_at (λ k. matrix_in k.2) (λ b. (row_at b).matrix) rows builtins i d b are.matrix h;
  has_forms = same_at (λ k. k.3) (λ b. (row_at b).has_forms) rows builtins i d b are.has_forms h;
}

within : (i : ℕ) (b : Builtin) → slice_get builtins i ≡ Some b → i < 125
unfolding builtins
within i b h = slice_get_within builtins i b h

as_many : (rows : List BaseRow) → AreData rows → length rows ≡ 125
unfolding builtins
as_many rows are = sym (length-map rows (λ k. k.3)) ∙ ap length are.has_forms

pub bounds-rows-place : goal.bounds-rows-place
bounds-rows-place c = subst (λ n. c.place.result < n) (sym (as_many c.rows.result.now c.rows.ensures)) (within c.place.result c.args.self c.place.ensures)

pub offset_bounds-rows-place : goal.offset_bounds-rows-place
offset_bounds-rows-place c = let below = within c.place.result c.args.self c.place.ensures in omega (arith, below)

pub returns : goal.returns
returns c = data_at c.rows.result.now c.place.result _ c.args.self c.rows.ensures c.place.ensures
