-- Runs of bytes that pass a test, and of digits.
use Rattle.std.proofs.Common.{◌≡◌, ℕ, ◌+◌, ◌<◌, ◌≤◌, List, [], ◌∷◌, ◌++◌, length, take, get_or, Bool, true, arith}
use Rattle.std.specs.List.{list_all, prefix_len}
use Rattle.std.specs.Char.{is_digit}
use Rattle.std.proofs.lemmas.List.{get_or-take}
use Rattle.std.proofs.lemmas.List.Folds.{length-prefix_len}
use Rattle.std.proofs.lemmas.List.Sums.{prefix_len_passes, list_all-from_AllPass}
use Rattle.std.proofs.lemmas.Bool.{and_parts, ltb-true}
use Rattle.fz_tree.specs.Token.{AreDigits}
use Rattle.fz_tree.specs.Scan.{digits_len}

pub prefix_all : (p : ℕ → Bool) (xs : List ℕ) → list_all p (take (prefix_len p xs) xs) ≡ true
prefix_all p xs = list_all-from_AllPass p (take (prefix_len p xs) xs) (λ k d h.
    let l = length-prefix_len p xs in
    let k_in : k < prefix_len p xs = omega arith in
    rw get_or-take (prefix_len_passes p xs k d k_in))

pub prefix_covers : (p : ℕ → Bool) (b after : List ℕ) → list_all p b ≡ true
    → prefix_len p (b ++ after) ≡ length b + prefix_len p after
prefix_covers p [] after h = omega arith
prefix_covers p (x ∷ xs) after h =
    let parts = and_parts (p x) (list_all p xs) h in
    let first = parts.0 in
    let rest = prefix_covers p xs after parts.1 in
    rw first (omega arith)

pub digits_front : (base : ℕ) (bytes : List ℕ) → 0 < digits_len base bytes
    → AreDigits base (take (digits_len base bytes) bytes)
digits_front base bytes h =
    let l = length-prefix_len (λ b. is_digit b base) bytes in
    (omega arith, prefix_all (λ b. is_digit b base) bytes)

pub digits_positive : (base : ℕ) (bytes : List ℕ) → base ≤ 36
    → is_digit (get_or bytes 0 0) base ≡ true → 0 < digits_len base bytes
digits_positive base [] h e = absurd (let l = ltb-true 36 base e in omega arith)
digits_positive base (b ∷ rest) h e = rw e (omega arith)

pub first_digit : (base : ℕ) (b : List ℕ) → AreDigits base b → is_digit (get_or b 0 0) base ≡ true
first_digit base [] h = absurd (omega (arith, h.0))
first_digit base (x ∷ xs) h = (and_parts _ _ h.1).0

pub digits_cover : (base : ℕ) (b after : List ℕ) → AreDigits base b
    → digits_len base (b ++ after) ≡ length b + digits_len base after
digits_cover base b after h = prefix_covers (λ x. is_digit x base) b after h.1
