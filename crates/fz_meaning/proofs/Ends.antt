-- Texts of which the ends are compared first.
use Rattle.std.proofs.Common.{◌≡◌, ◌∙◌, sym, ap, ap₂, ℕ, List, ◌++◌, ◌<◌, length, take, drop, get_or, ◌==◌, refl}
use Rattle.std.specs.Prelude.{bytes_eq}
use Rattle.std.specs.Int.{from_le_bytes, w64}
use Rattle.std.proofs.lemmas.Bool.Decides.{same_from_decides, Decides-eqb}
use Rattle.std.proofs.lemmas.List.{take-append-drop}
use Rattle.std.proofs.lemmas.Nat.{le_bytes_8}
use Rattle.std.proofs.lemmas.Slice.Eq.{bytes_eq-Decides}

-- where the ends are the same, the fronts decide
pub fronts_decide : (xs ys : List ℕ) (k : ℕ) → drop k xs ≡ drop k ys
    → bytes_eq (take k xs) (take k ys) ≡ bytes_eq xs ys
fronts_decide xs ys k ends =
    let whole = bytes_eq-Decides xs ys in
    let front = bytes_eq-Decides (take k xs) (take k ys) in
    same_from_decides _ _ (λ t. sym (take-append-drop k xs) ∙ ap₂ ◌++◌ (front.0 t) ends ∙ take-append-drop k ys, λ e. front.1 (ap (take k) e)) whole

-- eight bytes are the same where the numbers that they spell are
pub numbers_decide : (xs ys : List ℕ) → length xs ≡ 8 → length ys ≡ 8
    → ((i : ℕ) → get_or xs i 0 < 256) → ((i : ℕ) → get_or ys i 0 < 256)
    → (from_le_bytes w64 xs == from_le_bytes w64 ys) ≡ bytes_eq xs ys
numbers_decide xs ys eight eight' bytes bytes' =
    let numbers = Decides-eqb (from_le_bytes w64 xs) (from_le_bytes w64 ys) in
    let texts = bytes_eq-Decides xs ys in
    let read_back : (from_le_bytes w64 xs ≡ from_le_bytes w64 ys) → xs ≡ ys = λ same. sym (le_bytes_8 xs (from_le_bytes w64 xs) eight bytes refl) ∙ le_bytes_8 ys (from_le_bytes w64 xs) eight' bytes' same in
    same_from_decides _ _ (λ t. read_back (numbers.0 t), λ e. numbers.1 (ap (from_le_bytes w64) e)) texts
