-- A view's arguments by what they are read by.
use Rattle.std.proofs.Common.{◌≡◌, ℕ, ◌&&◌, List, [], ◌∷◌, map, Option, Some, None, slice_get, option_map, refl, sym, ap, ◌∙◌}
use Rattle.std.specs.Option.{option_map_or}
use Rattle.std.proofs.lemmas.Option.{slice_get-map}
use Rattle.fz_store.specs.of_meaning.Builtins.{Shape}
use Rattle.fz_store.specs.of_meaning.Builtins.Shape.{ScalarOf, ArrayOf}
use Rattle.fz_store.specs.of_meaning.Meaning as meaning
use Rattle.fz_store.specs.of_meaning.Meaning.{Partial}
use Rattle.fz_store.specs.Slots.{segment}
use Rattle.fz_store.specs.declared.Argument.{Argument}
use Rattle.fz_kernel.specs.declared.view.ArgumentView.{ArgumentView}
use Rattle.fz_kernel.specs.Given.{slots_in, slots_at, are_read}
use Rattle.fz_kernel.specs.Arguments.{Reading, argument_slots, reading_in, reading_of, elements_read, reading_is_read, readings_are_read}
use Rattle.fz_kernel.specs.Views.{arguments_of}
use Rattle.fz_kernel.proofs.Kept.{same_readings}

-- ---- a list of arguments by its readings

slots_same : (o : Option meaning.Argument) → option_map_or slots_in o []
    ≡ option_map_or (λ (r : Reading). r.1) (option_map reading_of o) []
slots_same None = refl
slots_same (Some x) = refl

slots_by : (zs : List meaning.Argument) (i : ℕ)
    → slots_at zs i ≡ elements_read (map reading_of zs) i
slots_by zs i = slots_same (slice_get zs i) ∙ ap (λ o. option_map_or (λ (r : Reading). r.1) o []) (sym (slice_get-map reading_of zs i))

all_read : (K : Partial) (ss : List Shape) (zs : List meaning.Argument)
    → readings_are_read K ss (map reading_of zs) ≡ are_read K ss zs
all_read K [] [] = refl
all_read K [] (z ∷ zs) = refl
all_read K (s ∷ ss) [] = refl
all_read K (ScalarOf k ∷ ss) (z ∷ zs) = ap (λ b. reading_is_read K (ScalarOf k) (reading_of z) && b) (all_read K ss zs)
all_read K (ArrayOf k ∷ ss) (z ∷ zs) = ap (λ b. reading_is_read K (ArrayOf k) (reading_of z) && b) (all_read K ss zs)

-- ---- a view

module _ (s : ArgumentView) where
  -- its arguments, as they are stored
  abbrev pub own : List Argument
  own = segment s.parts.store.now.arguments.items s.parts.posted.now.arguments

  abbrev read : Argument → Reading
  read = reading_in s.parts.arrays.now s.parts.store.now

  are : map reading_of (arguments_of s) ≡ map read own
  are = same_readings s.partial.now s.parts.variables.now s.parts.arrays.now s.parts.store.now own

  at : (i : ℕ) (o : Option Argument) → slice_get own i ≡ o
      → slice_get (map reading_of (arguments_of s)) i ≡ option_map read o
  at i o e = ap (λ rs. slice_get rs i) are ∙ slice_get-map read own i ∙ ap (option_map read) e

  pub elements_there : (i : ℕ) (a : Argument) → slice_get own i ≡ Some a
      → slots_at (arguments_of s) i ≡ argument_slots s.parts.arrays.now s.parts.store.now a
  elements_there i a e = slots_by (arguments_of s) i ∙ ap (λ o. option_map_or (λ (r : Reading). r.1) o []) (at i (Some a) e)

  pub no_elements : (i : ℕ) → slice_get own i ≡ None → slots_at (arguments_of s) i ≡ []
  no_elements i e = slots_by (arguments_of s) i ∙ ap (λ o. option_map_or (λ (r : Reading). r.1) o []) (at i None e)

  pub read_all : (K : Partial) (ss : List Shape)
      → readings_are_read K ss (map read own) ≡ are_read K ss (arguments_of s)
  read_all K ss = ap (readings_are_read K ss) (sym are) ∙ all_read K ss (arguments_of s)
