-- Sums with one element changed.
use Rattle.std.proofs.Common.{◌≡◌, ℕ, suc, zero, ℤ, pos, ◌+ℤ◌, ◌*ℤ◌, List, [], ◌∷◌, Some, ap, ◌∙◌, slice_get, slice_set, arith}
use Rattle.std.proofs.lemmas.Int.{ints}
use Rattle.std.proofs.Math.IntN.{*ℤ-zero}
use Rattle.fz_builtins.specs.of_meaning.Relations.{total, products}

-- ---- sums

sum_with : (p q r : ℤ) → p +ℤ (q +ℤ r) ≡ (p +ℤ q) +ℤ r
sum_with p q r = omega (arith, ints)

sum_here : (p x y r : ℤ) → x ≡ pos 0 → y +ℤ r ≡ (x +ℤ r) +ℤ y
sum_here p x y r e = omega (arith, ints)

-- the sum of the products where an element that is 0 becomes n
pub total_with : (a b : List ℤ) (i : ℕ) (u n : ℤ) → slice_get a i ≡ Some u
    → slice_get b i ≡ Some (pos 0)
    → total (products a (slice_set b i n)) ≡ total (products a b) +ℤ (u *ℤ n)
total_with [] b i u n d e = cc
total_with (x ∷ a) [] i u n d e = cc
total_with (x ∷ a) (y ∷ b) zero u n d e =
    let is : x ≡ u = cc in
    let none : y ≡ pos 0 = cc in
    let no_part : x *ℤ y ≡ pos 0 = ap (λ z. x *ℤ z) none ∙ *ℤ-zero x in
    sum_here x (x *ℤ y) (x *ℤ n) (total (products a b)) no_part ∙ ap (λ z. ((x *ℤ y) +ℤ total (products a b)) +ℤ (z *ℤ n)) is
total_with (x ∷ a) (y ∷ b) (suc i) u n d e =
    ap (λ t. (x *ℤ y) +ℤ t) (total_with a b i u n d e) ∙ sum_with (x *ℤ y) (total (products a b)) (u *ℤ n)
