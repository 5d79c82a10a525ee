-- What is added up along a list, and what is there at an index.
use Rattle.std.proofs.Common.{◌≡◌, ℕ, ◌≤◌, ℤ, pos, Bool, List, length, map, option_map, Option, None, Some, slice_get, refl, sym, ap, ◌∙◌, arith}
use Rattle.std.proofs.lemmas.List.{length-map, get_or_past}
use Rattle.std.proofs.lemmas.Option.{slice_get-map, get_or_from_slice_get}
use Rattle.std.specs.FinSet as sets
use Rattle.fz_kernel.specs.of_meaning.of_base.Sets.{NumberSet}
use Rattle.fz_kernel.specs.of_meaning.Relations.{as_number, marks}
use Rattle.fz_scheduling.specs.Places.{number_at, terms}

pub terms_counted : (o : Option NumberSet) (xs : List ℤ) → length (terms o xs) ≡ length xs
terms_counted None xs = refl
terms_counted (Some s) xs = length-map xs (λ x. as_number (sets.contains s x))

pub no_term : (o : Option NumberSet) (xs : List ℤ) (i : ℕ) → length xs ≤ i
    → pos 0 ≡ number_at (terms o xs) i
no_term o xs i past =
    let counted : length (terms o xs) ≡ length xs = terms_counted o xs in
    sym (get_or_past (terms o xs) i (pos 0) (omega arith))

own_term : (xs : List ℤ) (i : ℕ) (x : ℤ) → slice_get xs i ≡ Some x → x ≡ number_at xs i
own_term xs i x at = sym (get_or_from_slice_get xs i x (pos 0) at)

pub marked_term : (s : NumberSet) (xs : List ℤ) (i : ℕ) (x : ℤ) → slice_get xs i ≡ Some x
    → as_number (sets.contains s x) ≡ number_at (marks s xs) i
marked_term s xs i x at =
    own_term (marks s xs) i (as_number (sets.contains s x))
    (slice_get-map (λ y. as_number (sets.contains s y)) xs i ∙ ap (option_map (λ y. as_number (sets.contains s y))) at)
