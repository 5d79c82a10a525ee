-- What `int_lin_eq` leaves to one element of its sum.
use Rattle.std.proofs.Common.{◌≡◌, ℕ, suc, zero, ℤ, pos, ◌+ℤ◌, ◌*ℤ◌, List, [], ◌∷◌, map, Option, Some, refl, sym, ap, ◌∙◌, option_map, slice_get, slice_set}
use Rattle.fz_builtins.specs.of_meaning.of_base.declared.value.Value.TheVariants.{Int}
use Rattle.fz_builtins.specs.of_meaning.declared.kind.Kind.TheVariants.{Int as IntKind}
use Rattle.fz_builtins.specs.of_meaning.Relations.{◌=ℤ◌, total, products}
use Rattle.fz_builtins.specs.of_meaning.Builtins.{plain_list, row_at}
use Rattle.fz_builtins.specs.of_meaning.Results.{result_of}
use Rattle.fz_builtins.specs.of_meaning.Meaning.{Argument, Partial}
use Rattle.fz_builtins.specs.of_meaning.declared.builtin.Builtin.TheVariants.{IntLinEq}
use Rattle.fz_builtins.proofs.of_meaning.TableRows.{plain_ints, int_lin_eq_holds}
use Rattle.fz_builtins.specs.of_kernel.Given.{int_at, ints_at}
use Rattle.fz_model.specs.Left.{IsLeft, IsLeftNumber, holds_with_element}
use Rattle.fz_model.proofs.Plain.{total_with}
use Rattle.fz_model.proofs.Lefts.{number_left, same_numbers}

set_map : (b : List ℤ) (i : ℕ) (n : ℤ) → slice_set (map Int b) i (Int n) ≡ map Int (slice_set b i n)
set_map [] i n = refl
set_map (x ∷ b) zero n = refl
set_map (x ∷ b) (suc i) n = ap (λ vs. Int x ∷ vs) (set_map b i n)

module _ (K : Partial) (xs : List Argument) (i : ℕ) (s u w : ℤ) where
  unit_test : (n : ℤ) → slice_get (ints_at K xs 0) i ≡ Some u
      → slice_get (ints_at K xs 1) i ≡ Some (pos 0)
      → s ≡ total (products (ints_at K xs 0) (ints_at K xs 1)) → w ≡ int_at K xs 2
      → holds_with_element (row_at IntLinEq) K xs i (Int n) ≡ ((s +ℤ (u *ℤ n)) =ℤ w)
  unfolding row_at result_of
  unit_test n d e sum wanted =
      let a = ints_at K xs 0 in
      let b = ints_at K xs 1 in
      int_lin_eq_holds (map Int a) a (slice_set (map Int b) i (Int n)) (slice_set b i n) (int_at K xs 2) (plain_ints a) (ap (plain_list IntKind) (set_map b i n) ∙ plain_ints (slice_set b i n))
      ∙ ap (λ t. t =ℤ int_at K xs 2) (total_with a b i u n d e)
      ∙ (λ j. (sym sum j +ℤ (u *ℤ n)) =ℤ sym wanted j)

  pub unit_row : (o : Option ℤ) → slice_get (ints_at K xs 0) i ≡ Some u
      → slice_get (ints_at K xs 1) i ≡ Some (pos 0)
      → s ≡ total (products (ints_at K xs 0) (ints_at K xs 1)) → w ≡ int_at K xs 2
      → IsLeftNumber (λ n. (s +ℤ (u *ℤ n)) =ℤ w) o → IsLeft IntKind (holds_with_element (row_at IntLinEq) K xs i) (option_map Int o)
  unit_row o d e sum wanted h = number_left _ o (same_numbers _ _ o (λ n. unit_test n d e sum wanted) h)
