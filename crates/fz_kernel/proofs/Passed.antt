-- Tests of Booleans, one after another, and the element at an index.
use Rattle.std.proofs.Common.{◌≡◌, ℕ, suc, zero, ◌+◌, ◌≤◌, ℤ, pos, negsuc, Bool, true, false, not, List, [], ◌∷◌, drop, length, filter, Some, None, slice_get, refl, sym, ap, ◌∙◌, arith, add-one}
use Rattle.std.proofs.lemmas.Option.{slice_get_past}
use Rattle.fz_store.specs.of_meaning.Relations.{is_odd, element_at}
use Rattle.fz_kernel.proofs.Left.{next_is}

-- ---- how many are true

-- the answer turned round, or as it is
abbrev pub turned : Bool → Bool → Bool
turned true b = not b
turned false b = b

abbrev pub odd_of : List Bool → Bool
odd_of xs = is_odd (length (filter (λ x. x) xs))

turned_twice : (p q : Bool) → turned p (not q) ≡ turned (not p) q
turned_twice true true = refl
turned_twice true false = refl
turned_twice false q = refl

pub one_true : (xs : List Bool) (i : ℕ) (odd : Bool) (x : Bool) → slice_get xs i ≡ Some x → x ≡ true
    → odd_of xs ≡ turned odd (odd_of (drop i xs))
    → odd_of xs ≡ turned (not odd) (odd_of (drop (i + 1) xs))
one_true xs i odd x at is_true so_far = so_far ∙ ap (λ l. turned odd (odd_of l)) (next_is xs i x true at is_true) ∙ turned_twice odd (odd_of (drop (i + 1) xs))

pub one_false : (xs : List Bool) (i : ℕ) (odd : Bool) (x : Bool) → slice_get xs i ≡ Some x
    → x ≡ false → odd_of xs ≡ turned odd (odd_of (drop i xs))
    → odd_of xs ≡ turned odd (odd_of (drop (i + 1) xs))
one_false xs i odd x at is_false so_far = so_far ∙ ap (λ l. turned odd (odd_of l)) (next_is xs i x false at is_false)

-- ---- the element at an index, counted from 1

pub element_is : {A : Type 0} (xs : List A) (k : ℕ) → element_at xs (pos (suc k)) ≡ slice_get xs k
element_is [] k = refl
element_is (x ∷ xs) zero = refl
element_is (x ∷ xs) (suc k) = element_is xs k

pub no_element : {A : Type 0} (xs : List A) (n : ℤ) → ((k : ℕ) → n ≡ pos (suc k) → length xs ≤ k)
    → element_at xs n ≡ None
no_element [] n past = refl
no_element (x ∷ xs) (negsuc n) past = refl
no_element (x ∷ xs) (pos zero) past = refl
no_element (x ∷ xs) (pos (suc k)) past = element_is (x ∷ xs) k ∙ slice_get_past (x ∷ xs) k (past k refl)

pub element_found : {A : Type 0} (xs : List A) (n : ℤ) (k : ℕ) (x : A) → n ≡ pos (k + 1)
    → slice_get xs k ≡ Some x → element_at xs n ≡ Some x
element_found xs n k x is at = ap (element_at xs) (is ∙ ap pos (add-one k)) ∙ element_is xs k ∙ at

pub none_found : {A : Type 0} (xs : List A) (n : ℤ) (count : ℕ) → count ≡ length xs
    → ((k : ℕ) → n ≡ pos (k + 1) → count ≤ k) → element_at xs n ≡ None
none_found xs n count counted past = no_element xs n (λ k is. let more : count ≤ k = past k (is ∙ sym (ap pos (add-one k))) in omega arith)
