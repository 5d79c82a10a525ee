-- What the rows of the table have in common: with what they compute, and which one fills an element.
use Rattle.std.proofs.Common.{◌≡◌, Bool, true, false, cond, ◌&&◌, List, length, [], ◌∷◌, find, Some, refl, sym, ap, subst, ◌∙◌}
use Rattle.std.specs.List.{list_all}
use Rattle.fz_builtins.specs.of_meaning.declared.kind.Kind.TheVariants.{Int as IntKind}
use Rattle.fz_builtins.specs.of_meaning.Builtins.{Row, builtins, is_named, row_at, rows}
use Rattle.fz_builtins.specs.of_meaning.Results.{Result, result_of}
use Rattle.fz_builtins.specs.of_meaning.Builtins.Shape.{ScalarOf, ArrayOf}
use Rattle.fz_builtins.specs.of_meaning.Results.Result.{UnitTerm}
use Rattle.fz_builtins.specs.of_meaning.Meaning.{Argument, Partial, fits, have_shapes, table_name}
use Rattle.fz_builtins.specs.of_meaning.States.{is_beyond}
use Rattle.fz_builtins.proofs.of_meaning.Values.{and_first, and_second}
use Rattle.fz_builtins.specs.of_meaning.declared.builtin.Builtin.{Builtin}
use Rattle.fz_builtins.specs.of_meaning.declared.builtin.Builtin.TheVariants.{IntLinEq}
use Rattle.fz_builtins.specs.of_meaning.declared.known.Known.{Known}
use Rattle.fz_builtins.specs.of_meaning.Known.{form_at, known_row}
use Rattle.fz_builtins.specs.of_meaning.declared.known.Form.{Form}
use Rattle.fz_builtins.specs.of_meaning.declared.known.Form.TheVariants.{Base, Reified, Implied}
use Rattle.fz_builtins.proofs.of_kernel.Sums.{are_ints, leave_are}
use Rattle.fz_builtins.specs.of_meaning.declared.row.Wide.TheVariants.{Products}
use Rattle.fz_builtins.specs.Outcomes.{reads_beyond}
use Rattle.fz_model.specs.Forced.{IsRow}

-- what is asked of each row holds of the one that is found
found_all : {A : Type 0} (q t : A → Bool) (xs : List A) (x : A) → list_all q xs ≡ true
    → find t xs ≡ Some x → q x ≡ true
found_all q t [] x h e = cc
found_all q t (y ∷ ys) x h e =
    elim (t y) as (λ b. cond b (Some y) (find t ys) ≡ Some x → q x ≡ true) [
      | true ↦ λ e. let same : y ≡ x = cc in subst (λ z. q z ≡ true) same (and_first (q y) _ h)
      | false ↦ λ e. found_all q t ys x (and_second (q y) _ h) e
    ] e

of_row : (q : Row → Bool) → list_all q rows ≡ true → (r : Row) → IsRow r → q r ≡ true
of_row q h r (p, e) = found_all q (λ r. is_named (table_name p.name (length p.arguments)) r && fits r p.arguments) rows r h e

-- ---- a row computes with numbers

all_ints : list_all (λ r. list_all (are_ints r.shapes) r.wide) rows ≡ true
unfolding rows row_at builtins
all_ints = refl

-- what can't be computed, as it is read and as it is defined
pub same_numbers : (K : Partial) (xs : List Argument) (r : Row) → IsRow r
    → have_shapes r.shapes xs ≡ true → reads_beyond r K xs ≡ is_beyond K xs r
same_numbers K xs r row h = sym (leave_are K r.shapes xs h r.wide (of_row (λ r. list_all (are_ints r.shapes) r.wide) all_ints r row))

-- ---- the row that fills an element

abbrev is_unit : Result → Bool
is_unit UnitTerm = true
is_unit _ = false

abbrev is_int_lin_eq : Builtin → Bool
is_int_lin_eq IntLinEq = true
is_int_lin_eq _ = false

unit_bases : (b : Builtin) → is_unit (result_of (row_at b)) ≡ is_int_lin_eq b
unfolding row_at result_of
unit_bases IntLinEq = refl
unit_bases _ = refl

only_int_lin_eq : (b : Builtin) → is_int_lin_eq b ≡ true → row_at b ≡ row_at IntLinEq
only_int_lin_eq IntLinEq e = refl
only_int_lin_eq _ e = cc

unit_base : (b : Builtin) → result_of (row_at b) ≡ UnitTerm → row_at b ≡ row_at IntLinEq
unit_base b e = only_int_lin_eq b (sym (unit_bases b) ∙ ap is_unit e)

unit_form : (b : Builtin) (f : Form) → result_of (form_at f (row_at b)) ≡ UnitTerm
    → form_at f (row_at b) ≡ row_at IntLinEq
unfolding result_of
unit_form b Base e = unit_base b e
unit_form b Reified e = cc
unit_form b Implied e = cc

pub unit_row : (k : Known) → result_of (known_row k) ≡ UnitTerm → known_row k ≡ row_at IntLinEq
unit_row k e = unit_form k.builtin k.form e

pub unit_shapes : (row_at IntLinEq).shapes
    ≡ ArrayOf IntKind ∷ ArrayOf IntKind ∷ ScalarOf IntKind ∷ []
unfolding row_at
unit_shapes = refl

pub unit_wide : (row_at IntLinEq).wide ≡ Products 0 1 ∷ []
unfolding row_at
unit_wide = refl
