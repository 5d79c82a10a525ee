-- How `string_rest_len` goes on at an index of the bytes.
use Rattle.std.proofs.Common.{◌≡◌, ◌≢◌, ℕ, ◌+◌, ◌<◌, ◌≤◌, List, [], ◌∷◌, length, get_or, drop, Option, Some, None, option_map, ⊎_elim, refl, ap, sym, ◌∙◌, arith}
use Rattle.std.proofs.lemmas.List.{drop_more, drop_all, get_or_past}
use Rattle.std.proofs.lemmas.Bool.{ne_eqb, eq-eqb, cases_lt}
use Rattle.fz_tree.specs.Scan.{string_rest_len}

pub quote_first : (b : ℕ) (rest : List ℕ) → b ≡ 34 → string_rest_len (b ∷ rest) ≡ Some 1
unfolding string_rest_len
quote_first b [] e = rw (eq-eqb b 34 e) refl
quote_first b (c ∷ rest) e = rw (eq-eqb b 34 e) refl

line_feed_first : (b : ℕ) (rest : List ℕ) → b ≡ 10 → string_rest_len (b ∷ rest) ≡ None
unfolding string_rest_len
line_feed_first b [] e = rw e refl
line_feed_first b (c ∷ rest) e = rw e refl

pub plain_first : (b : ℕ) (rest : List ℕ) → b ≢ 34 → b ≢ 10 → b ≢ 92
    → string_rest_len (b ∷ rest) ≡ option_map (λ n. 1 + n) (string_rest_len rest)
unfolding string_rest_len
plain_first b [] q l s = rw (ne_eqb b 34 q) refl
plain_first b (c ∷ rest) q l s = rw (ne_eqb b 34 q, ne_eqb b 10 l, ne_eqb b 92 s) refl

pub escape_first : (b c : ℕ) (rest : List ℕ) → b ≡ 92 → c ≢ 10
    → string_rest_len (b ∷ (c ∷ rest)) ≡ option_map (λ n. 2 + n) (string_rest_len rest)
unfolding string_rest_len
escape_first b c rest e h = rw (e, ne_eqb c 10 h) refl

-- the length of the rest from an index on, counted from the front
abbrev pub counted : ℕ → List ℕ → Option ℕ
counted i xs = option_map (λ n. i + n) (string_rest_len (drop i xs))

counted_again : (i k : ℕ) (o : Option ℕ)
    → option_map (λ n. i + n) (option_map (λ n. k + n) o) ≡ option_map (λ n. i + k + n) o
counted_again i k None = refl
counted_again i k (Some n) = ap Some (omega arith)

pub at_quote : (xs : List ℕ) (i : ℕ) → i < length xs → get_or xs i 0 ≡ 34
    → counted i xs ≡ Some (i + 1)
at_quote xs i h e = rw (drop_more xs i 0 h, quote_first (get_or xs i 0) (drop (i + 1) xs) e) refl

pub at_line_feed : (xs : List ℕ) (i : ℕ) → i < length xs → get_or xs i 0 ≡ 10 → counted i xs ≡ None
at_line_feed xs i h e = rw (drop_more xs i 0 h, line_feed_first (get_or xs i 0) (drop (i + 1) xs) e) refl

pub at_plain : (xs : List ℕ) (i : ℕ) → i < length xs → get_or xs i 0 ≢ 34 → get_or xs i 0 ≢ 10
    → get_or xs i 0 ≢ 92 → counted i xs ≡ counted (i + 1) xs
at_plain xs i h q l s = rw (drop_more xs i 0 h, plain_first (get_or xs i 0) (drop (i + 1) xs) q l s) (counted_again i 1 (string_rest_len (drop (i + 1) xs)))

pub at_end : (xs : List ℕ) (i : ℕ) → length xs ≤ i → counted i xs ≡ None
unfolding string_rest_len
at_end xs i h = rw (drop_all i xs h) refl

-- what is at an index, as a byte and another after it
two_more : (xs : List ℕ) (i : ℕ) → i + 1 < length xs
    → drop i xs ≡ get_or xs i 0 ∷ (get_or xs (i + 1) 0 ∷ drop (i + 2) xs)
two_more xs i h = drop_more xs i 0 (omega arith) ∙ ap (λ rest. get_or xs i 0 ∷ rest) (drop_more xs (i + 1) 0 h ∙ ap (λ k. get_or xs (i + 1) 0 ∷ drop k xs) (omega arith))

pub at_broken : (xs : List ℕ) (i : ℕ) → get_or xs i 0 ≡ 92 → get_or xs (i + 1) 0 ≡ 10
    → counted i xs ≡ None
unfolding string_rest_len
at_broken xs i e f =
    ⊎_elim (λ h. rw (two_more xs i h, e, f) refl) (λ h. absurd (omega (arith, get_or_past xs (i + 1) 0 h))) (cases_lt (i + 1) (length xs))

pub at_escape : (xs : List ℕ) (i : ℕ) → i < length xs → get_or xs i 0 ≡ 92
    → get_or xs (i + 1) 0 ≢ 10 → counted i xs ≡ counted (i + 2) xs
unfolding string_rest_len
at_escape xs i h e f =
    ⊎_elim
    (λ k. rw (two_more xs i k, escape_first (get_or xs i 0) (get_or xs (i + 1) 0) (drop (i + 2) xs) e f) (counted_again i 2 (string_rest_len (drop (i + 2) xs))))
    (λ k. rw (drop_more xs i 0 h, drop_all (i + 1) xs k, e) (sym (at_end xs (i + 2) (omega arith))))
    (cases_lt (i + 1) (length xs))
