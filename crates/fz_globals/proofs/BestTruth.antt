-- The greatest of Booleans that are read as numbers: 1 where one is true, and else 0.
use Rattle.std.proofs.Common.{◌≡◌, ℕ, ◌<◌, pos, int_le, Bool, true, false, List, [], ◌∷◌, length, map, option_map, Some, slice_get, refl, ap, ◌∙◌, arith}
use Rattle.std.specs.List.{list_all, list_any}
use Rattle.std.proofs.lemmas.Int.{ints}
use Rattle.std.proofs.lemmas.Option.{slice_get-map}
use Rattle.fz_kernel.specs.of_meaning.Relations.{◌=ᴮ◌, as_number, is_among}
use Rattle.fz_kernel.proofs.of_meaning.Values.{no, no', and_both}
use Rattle.fz_kernel.proofs.Best.{is_best, not_above}

pub number_there : (bs : List Bool) (i : ℕ) (b : Bool) → slice_get bs i ≡ Some b
    → slice_get (map as_number bs) i ≡ Some (as_number b)
number_there bs i b at = slice_get-map as_number bs i ∙ ap (option_map as_number) at

pub other_numbers : (a b : Bool) → (a =ᴮ b) ≡ false → ¬ (as_number a ≡ as_number b)
other_numbers true true e = λ same. no' e
other_numbers true false e = λ same. absurd (omega (arith, ints))
other_numbers false true e = λ same. absurd (omega (arith, ints))
other_numbers false false e = λ same. no' e

pub no_truths : (bs : List Bool) → length bs ≡ 0 → bs ≡ []
no_truths [] e = refl
no_truths (b ∷ bs) e = absurd (omega arith)

among_one : (bs : List Bool) → list_any (λ x. x) bs ≡ true → is_among (pos 1) (map as_number bs) ≡ true
among_one [] e = no e
among_one (true ∷ bs) e = refl
among_one (false ∷ bs) e = among_one bs e

up_to_one : (bs : List Bool) → list_all (λ x. int_le x (pos 1)) (map as_number bs) ≡ true
up_to_one [] = refl
up_to_one (true ∷ bs) = up_to_one bs
up_to_one (false ∷ bs) = up_to_one bs

up_to_none : (bs : List Bool) → list_any (λ x. x) bs ≡ false
    → list_all (λ x. int_le x (pos 0)) (map as_number bs) ≡ true
up_to_none [] e = refl
up_to_none (true ∷ bs) e = no' e
up_to_none (false ∷ bs) e = up_to_none bs e

pub best_truth : (bs : List Bool) (any : Bool) → list_any (λ x. x) bs ≡ any → 0 < length bs
    → is_best not_above (as_number any) (map as_number bs) ≡ true
best_truth bs true e some =
    and_both (is_among (pos 1) (map as_number bs)) (list_all (λ x. int_le x (pos 1)) (map as_number bs)) (among_one bs e) (up_to_one bs)
best_truth [] false e some = absurd (omega arith)
best_truth (true ∷ bs) false e some = no' e
best_truth (false ∷ bs) false e some = up_to_none bs e
