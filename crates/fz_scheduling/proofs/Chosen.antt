-- The sum of those numbers whose companion passes a test.
use Rattle.std.proofs.Common.{◌≡◌, ℕ, ◌+◌, ◌*◌, ◌≤◌, ℤ, pos, ◌+ℤ◌, neg_ℤ, ◌≤ℤ◌, Bool, true, false, cond, List, ◌∷◌, drop, length, map, filter, FitsSigned, w64, sym, ap, ◌∙◌, arith}
use Rattle.std.proofs.lemmas.Int.{ints}
use Rattle.std.proofs.lemmas.List.{drop_all}
use Rattle.fz_kernel.specs.of_meaning.Relations.{total}

abbrev pub chosen : {A : Type 0} → (A → Bool) → List (A × ℤ) → ℤ
chosen test ps = total (map (λ p. p.1) (filter (λ p. test p.0) ps))

-- s is the sum of those among the first i; each is between -2^63 and 2^63
pub record IsChosen {A : Type 0} (test : A → Bool) (ps : List (A × ℤ)) (i : ℕ) (s : ℤ) : Type 0 where
  pub whole : chosen test ps ≡ s +ℤ chosen test (drop i ps)
  pub low : neg_ℤ (pos (9223372036854775808 * i)) ≤ℤ s
  pub high : s ≤ℤ pos (9223372036854775808 * i)

regroup : (a b c : ℤ) → (a +ℤ (b +ℤ c)) ≡ ((a +ℤ b) +ℤ c)
regroup a b c = omega (arith, ints)

to_zero : (a : ℤ) → (a +ℤ pos 0) ≡ a
to_zero a = omega (arith, ints)

module _ {A : Type 0} (test : A → Bool) (ps : List (A × ℤ)) (i : ℕ) (s : ℤ) (a : A) (n : ℤ) (so_far : IsChosen test ps i s) (here : drop i ps ≡ (a, n) ∷ drop (i + 1) ps) where
  left : (b : Bool) → test a ≡ b → chosen test (drop i ps)
      ≡ total (map (λ p. p.1) (cond b ((a, n) ∷ filter (λ p. test p.0) (drop (i + 1) ps))
      (filter (λ p. test p.0) (drop (i + 1) ps))))
  left b e = ap (chosen test) here ∙ ap (λ c. total (map (λ p. p.1) (cond c ((a, n) ∷ filter (λ p. test p.0) (drop (i + 1) ps)) (filter (λ p. test p.0) (drop (i + 1) ps))))) e

  pub one_chosen : (t : ℤ) → t ≡ (s +ℤ n) → test a ≡ true → FitsSigned w64 n
      → IsChosen test ps (i + 1) t
  one_chosen t is passes fits =
      let low : neg_ℤ (pos (9223372036854775808 * i)) ≤ℤ s = so_far.low in
      let high : s ≤ℤ pos (9223372036854775808 * i) = so_far.high in
      record {
        whole = so_far.whole ∙ ap (λ u. s +ℤ u) (left true passes) ∙ regroup s n (chosen test (drop (i + 1) ps)) ∙ ap (λ u. u +ℤ chosen test (drop (i + 1) ps)) (sym is);
        low = omega (arith, ints);
        high = omega (arith, ints);
      }

  pub one_left_out : (t : ℤ) → t ≡ s → test a ≡ false → IsChosen test ps (i + 1) t
  one_left_out t is fails =
      let low : neg_ℤ (pos (9223372036854775808 * i)) ≤ℤ s = so_far.low in
      let high : s ≤ℤ pos (9223372036854775808 * i) = so_far.high in
      record {
        whole = so_far.whole ∙ ap (λ u. s +ℤ u) (left false fails) ∙ ap (λ u. u +ℤ chosen test (drop (i + 1) ps)) (sym is);
        low = omega (arith, ints);
        high = omega (arith, ints);
      }

pub all_chosen : {A : Type 0} (test : A → Bool) (ps : List (A × ℤ)) (i : ℕ) (s : ℤ)
    → IsChosen test ps i s → length ps ≤ i → s ≡ chosen test ps
all_chosen test ps i s so_far end = sym (so_far.whole ∙ ap (λ l. s +ℤ chosen test l) (drop_all i ps end) ∙ to_zero s)
