-- The elements whose indices are in a set, one after another.
use Rattle.std.proofs.Common.{◌≡◌, ℕ, ◌+◌, ◌≤◌, ℤ, pos, ◌+ℤ◌, Bool, true, false, not, ◌&&◌, ◌||◌, if◌then◌else◌, List, [], ◌∷◌, ◌++◌, append-nil, append_assoc, drop, length, Some, slice_get, refl, sym, ap, ◌∙◌}
use Rattle.std.specs.List.{list_all}
use Rattle.std.specs.Ordering.{int_cmp}
use Rattle.std.specs.Cmp.{int_cmp_total}
use Rattle.std.specs.FinSet.{contains, contains-empty, contains-union, empty, is_subset, union}
use Rattle.fz_kernel.specs.of_meaning.of_base.Sets.{NumberSet}
use Rattle.fz_kernel.proofs.of_meaning.of_base.Numbers.{same_numbers}
use Rattle.fz_kernel.specs.of_meaning.Relations.{chosen, indices_from, refer_back, union_of}
use Rattle.fz_kernel.proofs.Left.{next, none_left}
use Rattle.fz_globals.proofs.FirstBest.{from_first, one_on}

-- those from the i-th position on that are chosen
abbrev pub left : {A : Type 0} → ℤ → List A → NumberSet → ℕ → List A
left o xs s i = chosen (o +ℤ pos i) (drop i xs) s

module _ {A : Type 0} (o : ℤ) (xs : List A) (s : NumberSet) (i : ℕ) (x : A) (at : slice_get xs i ≡ Some x) where
  here : (b : Bool) → contains s (o +ℤ pos i) ≡ b
      → left o xs s i ≡ (if b then x ∷ left o xs s (i + 1) else left o xs s (i + 1))
  here b is =
      ap (λ l. chosen (o +ℤ pos i) l s) (next xs i x at)
      ∙ (λ k. if is k then x ∷ chosen (one_on o i k) (drop (i + 1) xs) s else chosen (one_on o i k) (drop (i + 1) xs) s)

  pub one_chosen : contains s (o +ℤ pos i) ≡ true → left o xs s i ≡ x ∷ left o xs s (i + 1)
  one_chosen is = here true is

  pub none_chosen : contains s (o +ℤ pos i) ≡ false → left o xs s i ≡ left o xs s (i + 1)
  none_chosen is = here false is

-- ---- a list of them

-- the list so far, with what is left, is that of all
abbrev pub AreListed : {A : Type 0} → ℤ → List A → NumberSet → ℕ → List A → Type 0
AreListed o xs s i ys = ys ++ left o xs s i ≡ chosen o xs s

module _ {A : Type 0} (o : ℤ) (xs : List A) (s : NumberSet) where
  pub none_listed : (ys : List A) → ys ≡ [] → AreListed o xs s 0 ys
  none_listed ys is = ap (λ l. l ++ left o xs s 0) is ∙ ap (λ j. chosen j xs s) (from_first o)

  module _ (i : ℕ) (ys : List A) (so_far : AreListed o xs s i ys) where
    pub one_listed : (x : A) → slice_get xs i ≡ Some x → contains s (o +ℤ pos i) ≡ true
        → (zs : List A) → zs ≡ ys ++ x ∷ [] → AreListed o xs s (i + 1) zs
    one_listed x at is zs pushed =
        ap (λ l. l ++ left o xs s (i + 1)) pushed ∙ append_assoc ys (x ∷ []) (left o xs s (i + 1))
        ∙ ap (λ l. ys ++ l) (sym (one_chosen o xs s i x at is)) ∙ so_far

    pub none_more_listed : (x : A) → slice_get xs i ≡ Some x → contains s (o +ℤ pos i) ≡ false
        → (zs : List A) → zs ≡ ys → AreListed o xs s (i + 1) zs
    none_more_listed x at is zs same =
        ap (λ l. l ++ left o xs s (i + 1)) same
        ∙ ap (λ l. ys ++ l) (sym (none_chosen o xs s i x at is)) ∙ so_far

    pub all_listed : length xs ≤ i → ys ≡ chosen o xs s
    all_listed end =
        sym (ap (λ l. ys ++ chosen (o +ℤ pos i) l s) (none_left xs i end) ∙ append-nil ys) ∙ so_far

-- ---- their union

union_empty : (w : NumberSet) → union empty w ≡ w
union_empty w = same_numbers (union empty w) w (λ q. contains-union int_cmp_total empty w q ∙ ap (λ b. b || contains w q) (contains-empty int_cmp q))

empty_union : (w : NumberSet) → union w empty ≡ w
empty_union w = same_numbers (union w empty) w (λ q. contains-union int_cmp_total w empty q ∙ ap (λ b. contains w q || b) (contains-empty int_cmp q) ∙ or_false (contains w q))
  where
    or_false : (b : Bool) → (b || false) ≡ b
    or_false true = refl
    or_false false = refl

union_moved : (u v w : NumberSet) → union u (union v w) ≡ union (union u v) w
union_moved u v w =
    same_numbers (union u (union v w)) (union (union u v) w)
    (λ q. contains-union int_cmp_total u (union v w) q ∙ ap (λ b. contains u q || b) (contains-union int_cmp_total v w q)
    ∙ or_moved (contains u q) (contains v q) (contains w q)
    ∙ sym (contains-union int_cmp_total (union u v) w q ∙ ap (λ b. b || contains w q) (contains-union int_cmp_total u v q)))
  where
    or_moved : (a b c : Bool) → (a || (b || c)) ≡ ((a || b) || c)
    or_moved true b c = refl
    or_moved false b c = refl

-- what there is so far, with what is left, is the union of all
abbrev pub IsUnited : List NumberSet → NumberSet → ℕ → NumberSet → Type 0
IsUnited ss s i u = union_of (chosen (pos 1) ss s) ≡ union u (union_of (left (pos 1) ss s i))

pub none_united : (ss : List NumberSet) (s u : NumberSet) → u ≡ empty → IsUnited ss s 0 u
none_united ss s u is = sym (ap (λ v. union v (union_of (chosen (pos 1) ss s))) is ∙ union_empty (union_of (chosen (pos 1) ss s)))

pub one_united : (ss : List NumberSet) (s : NumberSet) (i : ℕ) (u x v : NumberSet)
    → IsUnited ss s i u → slice_get ss i ≡ Some x → contains s (pos 1 +ℤ pos i) ≡ true
    → v ≡ union u x → IsUnited ss s (i + 1) v
one_united ss s i u x v so_far at is joined =
    let rest = union_of (left (pos 1) ss s (i + 1)) in
    so_far ∙ ap (λ l. union u (union_of l)) (one_chosen (pos 1) ss s i x at is) ∙ union_moved u x rest
    ∙ ap (λ w. union w rest) (sym joined)

pub none_more : (ss : List NumberSet) (s : NumberSet) (i : ℕ) (u x v : NumberSet)
    → IsUnited ss s i u → slice_get ss i ≡ Some x → contains s (pos 1 +ℤ pos i) ≡ false → v ≡ u
    → IsUnited ss s (i + 1) v
none_more ss s i u x v so_far at is same =
    so_far ∙ (λ k. union (sym same k) (union_of (none_chosen (pos 1) ss s i x at is k)))

pub all_united : (ss : List NumberSet) (s : NumberSet) (i : ℕ) (u : NumberSet) → IsUnited ss s i u
    → length ss ≤ i → u ≡ union_of (chosen (pos 1) ss s)
all_united ss s i u so_far end =
    sym (so_far ∙ ap (λ l. union u (union_of (chosen (pos 1 +ℤ pos i) l s))) (none_left ss i end) ∙ empty_union u)

-- ---- a test of each of them

pub one_passes : {A : Type 0} (p : A → Bool) (i : ℤ) (x : A) (xs : List A) (s : NumberSet)
    → list_all p (chosen i (x ∷ xs) s)
    ≡ ((not (contains s i) || p x) && list_all p (chosen (i +ℤ pos 1) xs s))
one_passes p i x xs s = by (contains s i)
  where
    by : (b : Bool) → list_all p (if b then x ∷ chosen (i +ℤ pos 1) xs s else chosen (i +ℤ pos 1) xs s)
        ≡ ((not b || p x) && list_all p (chosen (i +ℤ pos 1) xs s))
    by true = refl
    by false = refl

-- ---- sets that refer back, one after another

module _ (o : ℤ) (ss : List NumberSet) (p : ℤ) (ys : List NumberSet) (i : ℕ) (r : Bool) (so_far : r ≡ refer_back (o +ℤ pos i) (drop i ss) p ys) where
  module _ (s : NumberSet) (at : slice_get ss i ≡ Some s) (b : Bool) (is : b ≡ (is_subset s (indices_from p (length ys)) && list_all (λ t. contains t (o +ℤ pos i)) (chosen p ys s))) where
    one : (c : Bool) → b ≡ c → r ≡ (c && refer_back (o +ℤ pos (i + 1)) (drop (i + 1) ss) p ys)
    one c told =
        so_far ∙ ap (λ l. refer_back (o +ℤ pos i) l p ys) (next ss i s at)
        ∙ (λ k. (sym is ∙ told) k && refer_back (one_on o i k) (drop (i + 1) ss) p ys)

    pub one_refers : b ≡ true → r ≡ refer_back (o +ℤ pos (i + 1)) (drop (i + 1) ss) p ys
    one_refers e = one true e

    pub one_does_not : b ≡ false → false ≡ r
    one_does_not e = sym (one false e)
