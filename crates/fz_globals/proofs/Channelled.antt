-- Channelling: each number is the index of the set that has the number's own index. Where each
-- index is in its number's set, and the sets have no more elements than there are numbers, each set
-- has just the indices of its numbers.
use Rattle.std.proofs.Common.{◌≡◌, ℕ, suc, zero, ◌+◌, ◌-◌, ◌<◌, ◌≤◌, ℤ, pos, negsuc, ◌+ℤ◌, ◌-ℤ◌, ◌<ℤ◌, Bool, true, false, not, cond, ◌&&◌, ◌||◌, inl, inr, if◌then◌else◌, List, [], ◌∷◌, drop, length, nat_eq, Some, None, slice_get, refl, sym, ap, subst, ◌∙◌, arith}
use Rattle.std.specs.List.{list_all, list_any}
use Rattle.std.specs.Option.{option_map_or}
use Rattle.std.specs.Ordering.{int_cmp, int_eq}
use Rattle.std.specs.Cmp.{int_cmp_total, both_ways}
use Rattle.std.specs.FinSet.{contains, insert, remove, from_list, len, contains-insert, contains-remove, contains-from_list, contains-empty, len-insert, len-remove, len-empty, empty_of_len}
use Rattle.std.proofs.lemmas.Int.{ints}
use Rattle.std.proofs.lemmas.Bool.{or_right, cases_eq, or_parts}
use Rattle.std.proofs.lemmas.Bool.Decides.{nat_tests, Decides-int_eq}
use Rattle.std.proofs.lemmas.Option.{slice_get_within}
use Rattle.std.proofs.lemmas.Grind.{common_steps}
use Rattle.fz_kernel.specs.of_meaning.of_base.Sets.{NumberSet}
use Rattle.fz_kernel.proofs.of_meaning.of_base.Numbers.{same_numbers}
use Rattle.fz_kernel.specs.of_meaning.Relations.{◌=ℤ◌, ◌=ˢ◌, element_at, are_channelled, indices_of, lies_between, sets_are}
use Rattle.fz_kernel.proofs.of_meaning.Values.{no, no', and_first, and_second, and_both, same_int, int_itself, same_set_is, set_itself}
use Rattle.fz_globals.specs.Held.{is_held, are_held, size_of_all}
use Rattle.fz_globals.proofs.Compared.{is_other}
use Rattle.fz_kernel.proofs.Left.{next}
use Rattle.fz_kernel.proofs.Passed.{element_is}

-- ---- a set and a list of some of its elements

-- no number is listed twice
abbrev Apart : List ℤ → Type 0
Apart [] = Unit {0}
Apart (k ∷ ks) = (list_any (int_eq k) ks ≡ false) × Apart ks

len_listed : (ks : List ℤ) → Apart ks → len (from_list {R = int_cmp} ks) ≡ length ks
len_listed [] apart = len-empty int_cmp
len_listed (k ∷ ks) apart =
    let new : contains (from_list {R = int_cmp} ks) k ≡ false = contains-from_list int_cmp_total ks k ∙ apart.0 in
    len-insert int_cmp_total (from_list ks) k ∙ rw (new, len_listed ks apart.1) (omega arith)

each_passes : (test : ℤ → Bool) (ks : List ℤ)
    → ((q : ℤ) → list_any (int_eq q) ks ≡ true → test q ≡ true) → list_all test ks ≡ true
each_passes test [] each = refl
each_passes test (k ∷ ks) each =
    and_both (test k) (list_all test ks)
    (each k (ap (λ b. b || list_any (int_eq k) ks) (int_itself k)))
    (each_passes test ks (λ q there. each q (or_right (int_eq q k) (list_any (int_eq q) ks) there)))

all_listed : (ks : List ℤ) → list_all (contains (from_list {R = int_cmp} ks)) ks ≡ true
all_listed ks = each_passes (contains (from_list ks)) ks (λ q there. contains-from_list int_cmp_total ks q ∙ there)

still_in : (s : NumberSet) (k : ℤ) (ks : List ℤ) → list_any (int_eq k) ks ≡ false
    → list_all (contains s) ks ≡ true → list_all (contains (remove s k)) ks ≡ true
still_in s k [] other all = refl
still_in s k (j ∷ ks) other all =
    and_both (contains (remove s k) j) (list_all (contains (remove s k)) ks)
    (contains-remove int_cmp_total s k j ∙ rw (unequal j (int_eq k j) refl (or_parts (int_eq k j) (list_any (int_eq k) ks) other).0) (and_first (contains s j) (list_all (contains s) ks) all))
    (still_in s k ks (or_parts (int_eq k j) (list_any (int_eq k) ks) other).1 (and_second (contains s j) (list_all (contains s) ks) all))
  where
    unequal : (j : ℤ) (b : Bool) → int_eq k j ≡ b → b ≡ false → int_eq j k ≡ false
    unequal j b is e = is_other j k (λ same. no' (sym ((Decides-int_eq k j).1 (sym same)) ∙ is ∙ e))

-- a set that has them has at least as many, and just these where it has no more
has_as_many : (ks : List ℤ) (s : NumberSet) → Apart ks → list_all (contains s) ks ≡ true
    → (length ks ≤ len s) × (length ks ≡ len s → s ≡ from_list ks)
has_as_many [] s apart all = (omega arith, λ e. empty_of_len s (sym e))
has_as_many (k ∷ ks) s apart all =
    let in_it : contains s k ≡ true = and_first (contains s k) (list_all (contains s) ks) all in
    let rest = has_as_many ks (remove s k) apart.1 (still_in s k ks apart.0 (and_second (contains s k) (list_all (contains s) ks) all)) in
    let fewer : len (remove s k) ≡ len s - 1 = len-remove int_cmp_total s k ∙ ap (λ b. cond b (len s - 1) (len s)) in_it in
    let some : 0 < len s = some_in s k in_it in
    (omega (arith, rest.0), λ e. sym (again s k in_it) ∙ ap (λ t. insert t k) (rest.1 (omega arith)))
  where
    some_in : (s : NumberSet) (k : ℤ) → contains s k ≡ true → 0 < len s
    some_in s k in_it = elim (cases_eq (len s) 0) [ inl e ↦ no (sym (contains-empty int_cmp k) ∙ ap (λ t. contains t k) (sym (empty_of_len s e)) ∙ in_it) | inr h ↦ omega arith ]

    again : (s : NumberSet) (k : ℤ) → contains s k ≡ true → insert (remove s k) k ≡ s
    again s k in_it =
        same_numbers (insert (remove s k) k) s
        (λ q. contains-insert int_cmp_total (remove s k) k q ∙ ap (λ b. int_eq q k || b) (contains-remove int_cmp_total s k q) ∙ back q (int_eq q k) refl)
      where
        back : (q : ℤ) (b : Bool) → int_eq q k ≡ b → (b || (not b && contains s q)) ≡ contains s q
        back q true e = sym (subst (λ j. contains s j ≡ true) (sym (same_int q k e)) in_it)
        back q false e = refl

-- ---- the indices of a number

-- how often a number is listed
abbrev times : ℤ → List ℤ → ℕ
times v [] = 0
times v (x ∷ xs) = cond (x =ℤ v) (suc (times v xs)) (times v xs)

length-indices_of : (i : ℤ) (xs : List ℤ) (v : ℤ) → length (indices_of i xs v) ≡ times v xs
length-indices_of i [] v = refl
length-indices_of i (x ∷ xs) v = grind (arith, common_steps, length-indices_of (i +ℤ pos 1) xs v)

below_all : (k i : ℤ) (xs : List ℤ) (v : ℤ) → k <ℤ i
    → list_any (int_eq k) (indices_of i xs v) ≡ false
below_all k i [] v h = refl
below_all k i (x ∷ xs) v h =
    grind (arith, ints, nat_tests, below_all k (i +ℤ pos 1) xs v (omega (arith, ints)))

indices_apart : (i : ℤ) (xs : List ℤ) (v : ℤ) → Apart (indices_of i xs v)
indices_apart i [] v = tt
indices_apart i (x ∷ xs) v =
    grind (arith, ints, nat_tests, below_all, indices_apart (i +ℤ pos 1) xs v)

-- ---- each index in its number's set

-- each set has the indices of its numbers
abbrev HaveAll : ℤ → List ℤ → List NumberSet → ℤ → Type 0
HaveAll i xs ss so = (t : ℕ) (s : NumberSet) → slice_get ss t ≡ Some s → list_all (contains s) (indices_of i xs (so +ℤ pos t)) ≡ true

is_there : (i x so : ℤ) (ss : List NumberSet) (t : ℕ) (s : NumberSet) → slice_get ss t ≡ Some s
    → x ≡ so +ℤ pos t → is_held i x ss so ≡ contains s i
is_there i x so ss t s at is =
    let place : (x -ℤ so) +ℤ pos 1 ≡ pos (suc t) = omega (arith, ints) in
    ap (λ o. option_map_or (λ u. contains u i) o false) (ap (element_at ss) place ∙ element_is ss t ∙ at)

have_all : (i : ℤ) (xs : List ℤ) (ss : List NumberSet) (so : ℤ) → are_held i xs ss so ≡ true
    → HaveAll i xs ss so
have_all i [] ss so held t s at = refl
have_all i (x ∷ xs) ss so held t s at =
    grind (
      arith,
      common_steps,
      and_second,
      and_both,
      is_there,
      same_int,
      and_first,
      have_all (i +ℤ pos 1) xs ss so (and_second (is_held i x ss so) (are_held (i +ℤ pos 1) xs ss so) held) t s at,
    )

abbrev in_range : List NumberSet → ℤ → ℤ → Bool
in_range ss so x = lies_between so ((so +ℤ pos (length ss)) -ℤ pos 1) x

held_in_range : (i x : ℤ) (ss : List NumberSet) (so : ℤ) → is_held i x ss so ≡ true
    → in_range ss so x ≡ true
held_in_range i x ss so held =
    elim (element_at ss ((x -ℤ so) +ℤ pos 1)) as (λ o. element_at ss ((x -ℤ so) +ℤ pos 1) ≡ o → option_map_or (λ s. contains s i) o false ≡ true → in_range ss so x ≡ true) [
      | None ↦ λ _ e. no e
      | Some s ↦ λ found _.
          let there = set_place ss ((x -ℤ so) +ℤ pos 1) s found in
          ranged x so (length ss) there.0 there.1 (slice_get_within ss there.0 s there.2)
    ] refl held
  where
    set_place : (ss : List NumberSet) (n : ℤ) (c : NumberSet) → element_at ss n ≡ Some c
        → (k : ℕ) × (n ≡ pos (suc k)) × (slice_get ss k ≡ Some c)
    set_place [] n c e = cc
    set_place (x ∷ xs) (negsuc n) c e = cc
    set_place (x ∷ xs) (pos zero) c e = cc
    set_place (x ∷ xs) (pos (suc k)) c e = (k, refl, sym (element_is (x ∷ xs) k) ∙ e)

    ranged : (x so : ℤ) (m k : ℕ) → (x -ℤ so) +ℤ pos 1 ≡ pos (suc k) → k < m
        → lies_between so ((so +ℤ pos m) -ℤ pos 1) x ≡ true
    ranged x so m k e h = grind (arith, ints)

all_in_range : (i : ℤ) (xs : List ℤ) (ss : List NumberSet) (so : ℤ) → are_held i xs ss so ≡ true
    → list_all (in_range ss so) xs ≡ true
all_in_range i [] ss so held = refl
all_in_range i (x ∷ xs) ss so held =
    and_both (in_range ss so x) (list_all (in_range ss so) xs)
    (held_in_range i x ss so (and_first (is_held i x ss so) (are_held (i +ℤ pos 1) xs ss so) held))
    (all_in_range (i +ℤ pos 1) xs ss so (and_second (is_held i x ss so) (are_held (i +ℤ pos 1) xs ss so) held))

place_of : (so x : ℤ) (m : ℕ) → lies_between so ((so +ℤ pos m) -ℤ pos 1) x ≡ true
    → (t : ℕ) × (t < m) × (x ≡ so +ℤ pos t)
place_of so x m e = at (x -ℤ so) refl
  where
    at : (d : ℤ) → x -ℤ so ≡ d → (t : ℕ) × (t < m) × (x ≡ so +ℤ pos t)
    at (pos t) is = (t, below t is e, omega (arith, ints))
      where
        below : (t : ℕ) → x -ℤ so ≡ pos t → lies_between so ((so +ℤ pos m) -ℤ pos 1) x ≡ true
            → t < m
        below t is e = grind (arith, ints)
    at (negsuc n) is = absurd (above n is e)
      where
        above : (n : ℕ) → x -ℤ so ≡ negsuc n → lies_between so ((so +ℤ pos m) -ℤ pos 1) x ≡ true → ⊥
        above n is e = grind (arith, ints)

held_from : (i : ℤ) (xs : List ℤ) (ss : List NumberSet) (so : ℤ)
    → list_all (in_range ss so) xs ≡ true → HaveAll i xs ss so → are_held i xs ss so ≡ true
held_from i [] ss so ranged have = refl
held_from i (x ∷ xs) ss so ranged have =
    let there = place_of so x (length ss) (and_first (in_range ss so x) (list_all (in_range ss so) xs) ranged) in
    let s = get_at ss there.0 there.1 in
    and_both (is_held i x ss so) (are_held (i +ℤ pos 1) xs ss so)
    (is_there i x so ss there.0 s.0 s.1 there.2 ∙ first_in s.0 there.0 there.2 (have there.0 s.0 s.1))
    (held_from (i +ℤ pos 1) xs ss so (and_second (in_range ss so x) (list_all (in_range ss so) xs) ranged) (λ t u at. fewer t u (have t u at)))
  where
    get_at : (ss : List NumberSet) (t : ℕ) → t < length ss
        → (s : NumberSet) × (slice_get ss t ≡ Some s)
    get_at [] t h = absurd (omega arith)
    get_at (s ∷ ss) zero h = (s, refl)
    get_at (s ∷ ss) (suc t) h = get_at ss t (omega arith)

    first_in : (s : NumberSet) (t : ℕ) → x ≡ so +ℤ pos t
        → list_all (contains s) (indices_of i (x ∷ xs) (so +ℤ pos t)) ≡ true → contains s i ≡ true
    first_in s t is all =
        and_first (contains s i) (list_all (contains s) (indices_of (i +ℤ pos 1) xs (so +ℤ pos t)))
        (subst (λ b. list_all (contains s) (if b then i ∷ indices_of (i +ℤ pos 1) xs (so +ℤ pos t) else indices_of (i +ℤ pos 1) xs (so +ℤ pos t)) ≡ true) ((Decides-int_eq x (so +ℤ pos t)).1 is) all)

    fewer : (t : ℕ) (s : NumberSet) → list_all (contains s) (indices_of i (x ∷ xs) (so +ℤ pos t))
        ≡ true → list_all (contains s) (indices_of (i +ℤ pos 1) xs (so +ℤ pos t)) ≡ true
    fewer t s all =
        elim (x =ℤ (so +ℤ pos t)) as (λ b. list_all (contains s) (if b then i ∷ indices_of (i +ℤ pos 1) xs (so +ℤ pos t) else indices_of (i +ℤ pos 1) xs (so +ℤ pos t)) ≡ true → list_all (contains s) (indices_of (i +ℤ pos 1) xs (so +ℤ pos t)) ≡ true) [
          | true ↦ λ e. and_second (contains s i) (list_all (contains s) (indices_of (i +ℤ pos 1) xs (so +ℤ pos t))) e
          | false ↦ λ e. e
        ] all

-- ---- how many there are

-- how often the sets' own indices are listed
abbrev counts_of : ℤ → List NumberSet → List ℤ → ℕ
counts_of j [] xs = 0
counts_of j (s ∷ ss) xs = times j xs + counts_of (j +ℤ pos 1) ss xs

none_counted : (j : ℤ) (ss : List NumberSet) → counts_of j ss [] ≡ 0
none_counted j [] = refl
none_counted j (s ∷ ss) = grind (arith, common_steps, none_counted (j +ℤ pos 1) ss)

not_here : (j x : ℤ) (ss : List NumberSet) (xs : List ℤ) → x <ℤ j
    → counts_of j ss (x ∷ xs) ≡ counts_of j ss xs
not_here j x [] xs h = refl
not_here j x (s ∷ ss) xs h =
    grind (arith, ints, nat_tests, is_other, not_here (j +ℤ pos 1) x ss xs (omega (arith, ints)))

once_here : (j x : ℤ) (ss : List NumberSet) (xs : List ℤ) (t : ℕ) → t < length ss → x ≡ j +ℤ pos t
    → counts_of j ss (x ∷ xs) ≡ suc (counts_of j ss xs)
once_here j x [] xs t h is = absurd (omega arith)
once_here j x (s ∷ ss) xs zero h is = grind (arith, ints, nat_tests, not_here)
once_here j x (s ∷ ss) xs (suc t) h is =
    let here : times j (x ∷ xs) ≡ times j xs = ap (λ b. cond b (suc (times j xs)) (times j xs)) (is_other x j (λ same. omega (arith, ints))) in
    let later : counts_of (j +ℤ pos 1) ss (x ∷ xs) ≡ suc (counts_of (j +ℤ pos 1) ss xs) = once_here (j +ℤ pos 1) x ss xs t (omega arith) (omega (arith, ints)) in
    (λ k. here k + later k) ∙ omega arith

all_counted : (so : ℤ) (ss : List NumberSet) (xs : List ℤ) → list_all (in_range ss so) xs ≡ true
    → counts_of so ss xs ≡ length xs
all_counted so ss [] ranged = none_counted so ss
all_counted so ss (x ∷ xs) ranged =
    let there = place_of so x (length ss) (and_first (in_range ss so x) (list_all (in_range ss so) xs) ranged) in
    once_here so x ss xs there.0 there.1 there.2 ∙ ap suc (all_counted so ss xs (and_second (in_range ss so x) (list_all (in_range ss so) xs) ranged))

module _ (xs : List ℤ) (o : ℤ) where
  -- ---- from the sets to the indices

  sets_told : (j : ℤ) (ss : List NumberSet) → sets_are j ss xs o ≡ true → HaveAll o xs ss j
  sets_told j [] are t s at = cc
  sets_told j (u ∷ ss) are zero s at =
      let same : s ≡ from_list (indices_of o xs j) = sym (first u s at) ∙ same_set_is u (from_list (indices_of o xs j)) (and_first (u =ˢ from_list (indices_of o xs j)) (sets_are (j +ℤ pos 1) ss xs o) are) in
      let here : j ≡ j +ℤ pos 0 = omega (arith, ints) in
      subst (λ v. list_all (contains s) (indices_of o xs v) ≡ true) here (ap (λ v. list_all (contains v) (indices_of o xs j)) same ∙ all_listed (indices_of o xs j))
    where
      first : (u s : NumberSet) → Some u ≡ Some s → u ≡ s
      first u s e = cc
  sets_told j (u ∷ ss) are (suc t) s at =
      let there : (j +ℤ pos 1) +ℤ pos t ≡ j +ℤ pos (suc t) = omega (arith, ints) in
      subst (λ v. list_all (contains s) (indices_of o xs v) ≡ true) there (sets_told (j +ℤ pos 1) ss (and_second (u =ˢ from_list (indices_of o xs j)) (sets_are (j +ℤ pos 1) ss xs o) are) t s at)

  sets_sized : (j : ℤ) (ss : List NumberSet) → sets_are j ss xs o ≡ true
      → size_of_all ss ≡ counts_of j ss xs
  sets_sized j [] are = refl
  sets_sized j (s ∷ ss) are =
      let same : s ≡ from_list (indices_of o xs j) = same_set_is s (from_list (indices_of o xs j)) (and_first (s =ˢ from_list (indices_of o xs j)) (sets_are (j +ℤ pos 1) ss xs o) are) in
      let here : len s ≡ times j xs = ap len same ∙ len_listed (indices_of o xs j) (indices_apart o xs j) ∙ length-indices_of o xs j in
      let later : size_of_all ss ≡ counts_of (j +ℤ pos 1) ss xs = sets_sized (j +ℤ pos 1) ss (and_second (s =ˢ from_list (indices_of o xs j)) (sets_are (j +ℤ pos 1) ss xs o) are) in
      λ k. here k + later k

  -- ---- and back

  sets_hold : (j : ℤ) (ss : List NumberSet) → HaveAll o xs ss j
      → (counts_of j ss xs ≤ size_of_all ss)
      × (counts_of j ss xs ≡ size_of_all ss → sets_are j ss xs o ≡ true)
  sets_hold j [] have = (omega arith, λ _. refl)
  sets_hold j (s ∷ ss) have =
      let here : j +ℤ pos 0 ≡ j = omega (arith, ints) in
      let one = has_as_many (indices_of o xs j) s (indices_apart o xs j) (subst (λ v. list_all (contains s) (indices_of o xs v) ≡ true) here (have 0 s refl)) in
      let rest = sets_hold (j +ℤ pos 1) ss (λ t u at. later t u (have (suc t) u at)) in
      let counted : length (indices_of o xs j) ≡ times j xs = length-indices_of o xs j in (
        omega (arith, one.0, rest.0),
        λ e.
            and_both (s =ˢ from_list (indices_of o xs j)) (sets_are (j +ℤ pos 1) ss xs o)
            (ap (λ u. u =ˢ from_list (indices_of o xs j)) (one.1 (omega (arith, one.0, rest.0))) ∙ set_itself (from_list (indices_of o xs j)))
            (rest.1 (omega (arith, one.0, rest.0))),
      )
    where
      later : (t : ℕ) (u : NumberSet) → list_all (contains u) (indices_of o xs (j +ℤ pos (suc t)))
          ≡ true → list_all (contains u) (indices_of o xs ((j +ℤ pos 1) +ℤ pos t)) ≡ true
      later t u all =
          let there : j +ℤ pos (suc t) ≡ (j +ℤ pos 1) +ℤ pos t = omega (arith, ints) in
          subst (λ v. list_all (contains u) (indices_of o xs v) ≡ true) there all

  pub channelled_is : (ss : List NumberSet) (so : ℤ)
      → (are_held o xs ss so && nat_eq (size_of_all ss) (length xs)) ≡ are_channelled xs o ss so
  channelled_is ss so =
      both_ways (are_held o xs ss so && nat_eq (size_of_all ss) (length xs)) (are_channelled xs o ss so)
      (λ e.
      let held : are_held o xs ss so ≡ true = and_first (are_held o xs ss so) (nat_eq (size_of_all ss) (length xs)) e in
      let ranged : list_all (in_range ss so) xs ≡ true = all_in_range o xs ss so held in
      let counted : counts_of so ss xs ≡ length xs = all_counted so ss xs ranged in
      let sized : size_of_all ss ≡ length xs = same_nat (size_of_all ss) (length xs) (and_second (are_held o xs ss so) (nat_eq (size_of_all ss) (length xs)) e) in
      and_both (list_all (in_range ss so) xs) (sets_are so ss xs o) ranged ((sets_hold so ss (have_all o xs ss so held)).1 (counted ∙ sym sized)))
      (λ e.
      let ranged : list_all (in_range ss so) xs ≡ true = and_first (list_all (in_range ss so) xs) (sets_are so ss xs o) e in
      let are : sets_are so ss xs o ≡ true = and_second (list_all (in_range ss so) xs) (sets_are so ss xs o) e in
      and_both (are_held o xs ss so) (nat_eq (size_of_all ss) (length xs))
      (held_from o xs ss so ranged (sets_told so ss are))
      (nat_is (size_of_all ss) (length xs) (sets_sized so ss are ∙ all_counted so ss xs ranged)))
    where
      same_nat : (m n : ℕ) → nat_eq m n ≡ true → m ≡ n
      same_nat m n e = grind (arith, nat_tests)

      nat_is : (m n : ℕ) → m ≡ n → nat_eq m n ≡ true
      nat_is m n e = grind (arith, nat_tests)

-- ---- the loops

pub one_sized : (ss : List NumberSet) (i : ℕ) (s : NumberSet) → slice_get ss i ≡ Some s
    → size_of_all (drop i ss) ≡ len s + size_of_all (drop (i + 1) ss)
one_sized ss i s at = ap size_of_all (next ss i s at)
