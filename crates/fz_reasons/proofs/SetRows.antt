-- Rows over sets fail by their reasons.
use Rattle.std.proofs.Common.{◌≡◌, arith, ℤ, Bool, true, false, not, ◌&&◌, ◌||◌, refl, sym, ap, ◌∙◌, true≢false, ◌↔◌, pos, negsuc, ◌≤ℤ◌, int_lt, FitsSigned, w64, ℕ, suc, zero, ◌≤◌, ◌+ℤ◌, ◌-ℤ◌, List, length, ◌⊎◌, inl, inr, Option, Some, None, slice_get, ◌<◌, if◌then◌else◌, [], ◌∷◌, nat_eq}
use Rattle.std.specs.FinSet.{contains, difference, empty, intersection, is_subset, union, contains-difference, contains-empty, contains-intersection, contains-union, is_subset-contains, from_list, contains-from_list}
use Rattle.std.specs.Cmp.{int_cmp_total, both_ways}
use Rattle.std.proofs.lemmas.Bool.{false_from_ne_true, not-true, true_from_ne_false}
use Rattle.fz_builtins.specs.of_meaning.of_base.Sets.{NumberSet, symmetric_difference}
use Rattle.fz_builtins.proofs.of_meaning.of_base.Covers.{and-false}
use Rattle.fz_builtins.specs.of_meaning.Relations.{◌=ᴮ◌, ◌=ˢ◌, are_disjoint, is_convex, element_at, flags_are, indices_from, is_flagged, chosen, has_only, is_among, lies_between, precedes_in_sets, refer_back, union_of, ◌=ℤ◌, are_channelled, indices_of, sets_are, all_pairs, is_partition}
use Rattle.std.specs.List.{list_any, list_all}
use Rattle.std.proofs.lemmas.Int.{ints}
use Rattle.fz_builtins.specs.of_meaning.of_base.Elements.{LiesWithin, Has64Bits}
use Rattle.fz_builtins.proofs.of_globals.NoGaps.{gap, some_element, element_some}
use Rattle.fz_builtins.proofs.of_meaning.Values.{and_first, and_second, no, int_itself, same_int}
use Rattle.std.proofs.lemmas.Option.{slice_get_cases, none-some, same_Some}
use Rattle.fz_builtins.specs.of_meaning.of_base.Ranges.{is_between}
use Rattle.fz_builtins.proofs.of_kernel.Passed.{element_is, no_element}
use Rattle.std.specs.Option.{option_map_or}
use Rattle.fz_builtins.proofs.of_meaning.of_base.Numbers.{contains-numbers_between}
use Rattle.fz_builtins.proofs.Failing.{indexed_fails, passing, pair_fails}
use Rattle.std.specs.Ordering.{int_cmp, int_eq}
use Rattle.fz_reasons.specs.Elements.{IsEarlySet, IsNotBack, Early, OneWay, IsInNoSet, IsNoIndexOf, IsShared, Clash}
use Rattle.std.proofs.lemmas.Bool.Decides.{Decides-int_eq}
use Rattle.fz_builtins.specs.of_globals.Held.{are_held, is_held, size_of_all}
use Rattle.fz_builtins.proofs.of_globals.Channelled.{channelled_is}
use Rattle.fz_builtins.proofs.of_globals.Valued.{in_listed}
use Rattle.fz_reasons.specs.Rows.{Argument, Builtin, Partial, bools_at, int_at, ints_at, row_at, row_outcome, set_at, sets_at}
use Rattle.fz_reasons.specs.Reasons.{IsMisplaced, in_sets, is_misplaced, is_no_index, Member}
use Rattle.std.specs.FinSet as sets
use Rattle.fz_builtins.specs.of_meaning.declared.builtin.Builtin.TheVariants as builtin
use Rattle.fz_builtins.specs.declared.outcome.Outcome.TheVariants as outcomes

not_within : (s t : NumberSet) (q : ℤ) → contains s q ≡ true → contains t q ≡ false → is_subset s t ≡ false
not_within s t q here gone =
    false_from_ne_true (is_subset s t) (λ e. true≢false (sym (is_subset-contains int_cmp_total s t e q here) ∙ gone))

not_same : (s t : NumberSet) (q : ℤ) → (contains s q =ᴮ contains t q) ≡ false → (s =ˢ t) ≡ false
not_same s t q other = by (contains s q) (contains t q) refl refl other
  where
    by : (a b : Bool) → contains s q ≡ a → contains t q ≡ b → (a =ᴮ b) ≡ false → (s =ˢ t) ≡ false
    by true true e f o = absurd (true≢false o)
    by false false e f o = absurd (true≢false o)
    by true false e f o = ap (λ x. x && is_subset t s) (not_within s t q e f)
    by false true e f o = ap (λ x. is_subset s t && x) (not_within t s q f e) ∙ and-false (is_subset s t)

turned : (a b : Bool) → (a =ᴮ b) ≡ false → (b =ᴮ a) ≡ false
turned a b e = grind arith

module _ (a b c : NumberSet) (q : ℤ) where
  no_union : (contains c q =ᴮ (contains a q || contains b q)) ≡ false → (c =ˢ union a b) ≡ false
  no_union e = not_same c (union a b) q (ap (λ x. contains c q =ᴮ x) (contains-union int_cmp_total a b q) ∙ e)

  no_intersection : (contains c q =ᴮ (contains a q && contains b q)) ≡ false
      → (c =ˢ intersection a b) ≡ false
  no_intersection e = not_same c (intersection a b) q (ap (λ x. contains c q =ᴮ x) (contains-intersection int_cmp_total a b q) ∙ e)

  no_difference : (contains c q =ᴮ (contains a q && not (contains b q))) ≡ false
      → (c =ˢ difference a b) ≡ false
  no_difference e = not_same c (difference a b) q (ap (λ x. contains c q =ᴮ x) (contains-difference int_cmp_total a b q) ∙ e)

  in_one : (x y : Bool) → ((x && not y) || (y && not x)) ≡ not (x =ᴮ y)
  in_one x y = grind arith

  no_symmetric_difference : (contains c q =ᴮ not (contains a q =ᴮ contains b q)) ≡ false
      → (c =ˢ symmetric_difference a b) ≡ false
  no_symmetric_difference e =
      not_same c (symmetric_difference a b) q
      (ap (λ x. contains c q =ᴮ x) (contains-union int_cmp_total (difference a b) (difference b a) q ∙ (λ i. contains-difference int_cmp_total a b q i || contains-difference int_cmp_total b a q i) ∙ in_one (contains a q) (contains b q)) ∙ e)

not_disjoint : (s t : NumberSet) (q : ℤ) → contains s q ≡ true → contains t q ≡ true
    → are_disjoint s t ≡ false
not_disjoint s t q here there =
    not_same (intersection s t) empty q
    ((λ i. (contains-intersection int_cmp_total s t q ∙ (λ j. here j && there j)) i =ᴮ contains-empty int_cmp q i))

less : (a b : ℤ) → int_lt a b ≡ true → a ≤ℤ b
less a b h = grind (arith, ints)

not_less : (a b : ℤ) → int_lt a b ≡ true → b ≤ℤ a → ⊥
not_less a b h k = grind (arith, ints)

at_least : (a b : ℤ) → int_lt a b ≡ false → b ≤ℤ a
at_least a b h = grind (arith, ints)

has_gap : (s : NumberSet) (q : ℤ)
    → (list_any (λ x. int_lt x q) (sets.items s) && not (sets.contains s q)
    && list_any (λ x. int_lt q x) (sets.items s)) ≡ true → is_convex s ≡ false
has_gap s q e =
    let below = list_any (λ x. int_lt x q) (sets.items s) in
    let out = not (sets.contains s q) in
    let x = some_element (λ x. int_lt x q) s (and_first below out (and_first (below && out) _ e)) in
    let y = some_element (λ x. int_lt q x) s (and_second (below && out) _ e) in
    gap s x.0 q y.0 x.1 y.1 (less x.0 q x.2) (less q y.0 y.2) (not-true _ (and_second below out (and_first (below && out) _ e)))

-- some element passes where not each is on the other side
module _ (s : NumberSet) (p : ℤ → Bool) (lo hi : ℤ) where
  one_side : (r : Bool) → (r ≡ true ↔ LiesWithin lo hi s)
      → ((x : ℤ) → sets.contains s x ≡ true → p x ≡ true → (lo ≤ℤ x) × (x ≤ℤ hi) → ⊥)
      → ((x : ℤ) → sets.contains s x ≡ true → p x ≡ false → (lo ≤ℤ x) × (x ≤ℤ hi))
      → not r ≡ list_any p (sets.items s)
  one_side true told out within =
      sym (false_from_ne_true _ (λ e. let x = some_element p s e in out x.0 x.1 x.2 (told.0 refl x.0 x.1)))
  one_side false told out within = sym (true_from_ne_false _ (λ e. no (told.1 (λ x in_s. within x in_s (fails e x in_s)))))
    where
      fails : list_any p (sets.items s) ≡ false → (x : ℤ) → sets.contains s x ≡ true → p x ≡ false
      fails e x in_s = false_from_ne_true (p x) (λ h. no (sym e ∙ element_some p s x in_s h))

pub some_less : (s : NumberSet) (q : ℤ) (r : Bool)
    → (r ≡ true ↔ LiesWithin q (pos 9223372036854775807) s) → Has64Bits s
    → not r ≡ list_any (λ x. int_lt x q) (sets.items s)
some_less s q r told fits =
    one_side s (λ x. int_lt x q) q (pos 9223372036854775807) r told
    (λ x in_s passes h. not_less x q passes h.0)
    (λ x in_s fails. let fit : FitsSigned w64 x = fits x in_s in (at_least x q fails, omega (arith, ints)))

pub some_more : (s : NumberSet) (q : ℤ) (r : Bool)
    → (r ≡ true ↔ LiesWithin (negsuc 9223372036854775807) q s) → Has64Bits s
    → not r ≡ list_any (λ x. int_lt q x) (sets.items s)
some_more s q r told fits =
    one_side s (λ x. int_lt q x) (negsuc 9223372036854775807) q r told
    (λ x in_s passes h. not_less q x passes h.1)
    (λ x in_s fails. let fit : FitsSigned w64 x = fits x in_s in (omega (arith, ints), at_least q x fails))

-- the last of so many indices, from o on
abbrev last : ℤ → ℕ → ℤ
last o n = (o +ℤ pos n) -ℤ pos 1

before : (o q : ℤ) (m n : ℕ) → ((q -ℤ o) +ℤ pos 1) ≡ negsuc n → is_between o (last o m) q ≡ false
before o q m n is = grind (arith, ints)

just_before : (o q : ℤ) (m : ℕ) → ((q -ℤ o) +ℤ pos 1) ≡ pos zero → is_between o (last o m) q ≡ false
just_before o q m is = grind (arith, ints)

behind : (o q : ℤ) (m k : ℕ) → ((q -ℤ o) +ℤ pos 1) ≡ pos (suc k) → m ≤ k
    → is_between o (last o m) q ≡ false
behind o q m k is short = grind (arith, ints)

module _ {A : Type 0} (xs : List A) (o q : ℤ) where
  abbrev IsNoIndex : Type 0
  IsNoIndex = (is_between o (last o (length xs)) q ≡ false)
      × (element_at xs ((q -ℤ o) +ℤ pos 1) ≡ None)

  abbrev IsIndex : ℕ → A → Type 0
  IsIndex k x = (q ≡ (o +ℤ pos k)) × (slice_get xs k ≡ Some x)
      × (element_at xs ((q -ℤ o) +ℤ pos 1) ≡ Some x)

  index_or_none : IsNoIndex ⊎ ((k : ℕ) × (x : A) × IsIndex k x)
  index_or_none = by ((q -ℤ o) +ℤ pos 1) refl
    where
      by : (p : ℤ) → ((q -ℤ o) +ℤ pos 1) ≡ p → IsNoIndex ⊎ ((k : ℕ) × (x : A) × IsIndex k x)
      by (pos zero) is = inl (just_before o q (length xs) is, no_element xs _ (λ k e. omega (arith, ints)))
      by (pos (suc k)) is =
          elim (slice_get_cases xs k).1 [
            | inl h ↦ inr (k, h.0, (omega (arith, ints), h.2, ap (element_at xs) is ∙ element_is xs k ∙ h.2))
            | inr h ↦ inl (behind o q (length xs) k is h.0, ap (element_at xs) is ∙ element_is xs k ∙ h.1)
          ]
      by (negsuc n) is = inl (before o q (length xs) n is, no_element xs _ (λ k e. omega (arith, ints)))

in_set : (b : Bool) → (b =ᴮ false) ≡ false → b ≡ true
in_set b e = grind arith

module _ (s : NumberSet) (bs : List Bool) (o q : ℤ) where
  abbrev IsOther : Option Bool → Type 0
  IsOther p = (contains s q =ᴮ option_map_or (λ t. t) p false) ≡ false

  not_flagged : IsOther (element_at bs ((q -ℤ o) +ℤ pos 1)) → is_flagged s bs o ≡ false
  not_flagged e =
      elim (index_or_none bs o q) [
        | inl h ↦ ap (λ b. b && flags_are o bs s) (not_within s (indices_from o (length bs)) q (in_set (contains s q) ((λ i. contains s q =ᴮ option_map_or (λ t. t) (sym h.1 i) false) ∙ e)) (contains-numbers_between o (last o (length bs)) q ∙ h.0))
        | inr h ↦
            let at = h.2 in
            let other : (contains s q =ᴮ h.1) ≡ false = (λ i. contains s q =ᴮ option_map_or (λ t. t) (sym at.2 i) false) ∙ e in
            ap (λ t. is_subset s (indices_from o (length bs)) && t) (indexed_fails (λ n b. b =ᴮ contains s n) (λ p cs. flags_are p cs s) (λ p c cs. refl) o bs h.0 h.1 at.1 (ap (λ n. h.1 =ᴮ contains s n) (sym at.0) ∙ turned (contains s q) h.1 other))
            ∙ and-false (is_subset s (indices_from o (length bs)))
      ]

-- ---- one comes too early

too_early : (s t : ℤ) (ss : List NumberSet) (i : ℕ)
    → option_map_or (has_only t s) (slice_get ss i) false ≡ true
    → ((k : ℕ) → k < i → option_map_or (has_only s t) (slice_get ss k) false ≡ false)
    → precedes_in_sets s t ss ≡ false
too_early s t [] i there none = absurd (true≢false (sym there))
too_early s t (x ∷ ss) zero there none =
    ap (λ b. not b && (has_only s t x || precedes_in_sets s t ss)) there
too_early s t (x ∷ ss) (suc i) there none =
    let rest : precedes_in_sets s t ss ≡ false = too_early s t ss i there (λ k h. none (suc k) (omega arith)) in
    let first : has_only s t x ≡ false = none 0 (omega arith) in
    (λ j. not (has_only t s x) && (first j || rest j)) ∙ and-false (not (has_only t s x))

pub set_too_early : (ss : List NumberSet) (e : Early) → IsEarlySet ss e
    → precedes_in_sets e.before e.value ss ≡ false
set_too_early ss e h = too_early e.before e.value ss e.place h.there h.none

-- ---- one doesn't lead back

-- a set whose index is in s hasn't the number n
lacks : (n o : ℤ) (ts : List NumberSet) (s : NumberSet) (k : ℕ) (t : NumberSet)
    → slice_get ts k ≡ Some t → contains s (o +ℤ pos k) ≡ true → contains t n ≡ false
    → list_all (λ u. contains u n) (chosen o ts s) ≡ false
lacks n o [] s k t at is other = absurd (none-some t at)
lacks n o (u ∷ ts) s zero t at is other =
    let here : (o +ℤ pos 0) ≡ o = omega (arith, ints) in
    let rest = chosen (o +ℤ pos 1) ts s in
    ap (λ b. list_all (λ v. contains v n) (if b then u ∷ rest else rest)) (ap (contains s) (sym here) ∙ is)
    ∙ ap (λ b. b && list_all (λ v. contains v n) rest) (ap (λ v. contains v n) (same_Some u t at) ∙ other)
lacks n o (u ∷ ts) s (suc k) t at is other =
    let there : (o +ℤ pos (suc k)) ≡ ((o +ℤ pos 1) +ℤ pos k) = omega (arith, ints) in
    by (contains s o) (lacks n (o +ℤ pos 1) ts s k t at (ap (contains s) (sym there) ∙ is) other)
  where
    by : (b : Bool) → list_all (λ v. contains v n) (chosen (o +ℤ pos 1) ts s) ≡ false
        → list_all (λ v. contains v n) (if b then u ∷ chosen (o +ℤ pos 1) ts s else chosen (o +ℤ pos 1) ts s) ≡ false
    by true e = ap (λ c. contains u n && c) e ∙ and-false (contains u n)
    by false e = e

-- the set with the index i has an element q that isn't the index of a set with i
abbrev leads_back : ℤ → ℤ → List NumberSet → NumberSet → Bool
leads_back i o ts s =
    is_subset s (indices_from o (length ts)) && list_all (λ u. contains u i) (chosen o ts s)

one_astray : (i q o : ℤ) (ts : List NumberSet) (s : NumberSet) → contains s q ≡ true
    → option_map_or (λ t. contains t i) (element_at ts ((q -ℤ o) +ℤ pos 1)) false ≡ false
    → leads_back i o ts s ≡ false
one_astray i q o ts s there none =
    elim (index_or_none ts o q) [
      | inl h ↦ ap (λ b. b && list_all (λ u. contains u i) (chosen o ts s)) (not_within s (indices_from o (length ts)) q there (contains-numbers_between o (last o (length ts)) q ∙ h.0))
      | inr h ↦
          let at = h.2 in
          ap (λ b. is_subset s (indices_from o (length ts)) && b) (lacks i o ts s h.0 h.1 at.1 (ap (contains s) (sym at.0) ∙ there) (ap (λ p. option_map_or (λ t. contains t i) p false) (sym at.2) ∙ none))
          ∙ and-false (is_subset s (indices_from o (length ts)))
    ]

pub not_back : (ss : List NumberSet) (so : ℤ) (ts : List NumberSet) (to' : ℤ) (w : OneWay)
    → IsNotBack ss so ts to' w → refer_back so ss to' ts ≡ false
not_back ss so ts to' w h =
    let s = passing (λ s. contains s w.value) (slice_get ss w.place) h.there in
    indexed_fails (λ i t. leads_back i to' ts t) (λ i us. refer_back i us to' ts) (λ i t us. refl) so ss w.place s.0 s.1
    (one_astray (so +ℤ pos w.place) w.value to' ts s.0 s.2 h.none)

-- ---- a union

in_union : (ss : List NumberSet) (q : ℤ)
    → contains (union_of ss) q ≡ list_any (λ s. contains s q) ss
in_union [] q = contains-empty int_cmp q
in_union (s ∷ ss) q =
    contains-union int_cmp_total s (union_of ss) q ∙ ap (λ t. contains s q || t) (in_union ss q)

-- ---- chosen elements

-- a number in one of two sets alone, or in that of the indices and none
module _ (a : NumberSet) (o : ℤ) (n : ℕ) (c all : NumberSet) (q : ℤ) where
  no_index : is_no_index o n a q ≡ true → is_subset a (indices_from o n) ≡ false
  no_index e =
      not_within a (indices_from o n) q (and_first (contains a q) (not (lies_between o (last o n) q)) e)
      (contains-numbers_between o (last o n) q ∙ outside (and_second (contains a q) (not (lies_between o (last o n) q)) e))
    where
      outside : not (lies_between o (last o n) q) ≡ true → is_between o (last o n) q ≡ false
      outside e = grind (arith, ints)

  others_chosen : (there : Bool) → contains all q ≡ there
      → (not (there =ᴮ contains c q) || is_no_index o n a q) ≡ true
      → (is_subset a (indices_from o n) && (c =ˢ all)) ≡ false
  others_chosen there is e = by (there =ᴮ contains c q) refl e
    where
      by : (b : Bool) → (there =ᴮ contains c q) ≡ b → (not b || is_no_index o n a q) ≡ true
          → (is_subset a (indices_from o n) && (c =ˢ all)) ≡ false
      by true same e = ap (λ b. b && (c =ˢ all)) (no_index e)
      by false same e = ap (λ b. is_subset a (indices_from o n) && b) (not_same c all q (turned (contains all q) (contains c q) (ap (λ b. b =ᴮ contains c q) is ∙ same))) ∙ and-false (is_subset a (indices_from o n))

no_chosen_union : (a : NumberSet) (ts : List NumberSet) (c : NumberSet) (q : ℤ)
    → (not (list_any (λ s. contains s q) (chosen (pos 1) ts a) =ᴮ contains c q) || is_no_index (pos 1) (length ts) a q) ≡ true
    → (is_subset a (indices_from (pos 1) (length ts)) && (c =ˢ union_of (chosen (pos 1) ts a))) ≡ false
no_chosen_union a ts c q e =
    others_chosen a (pos 1) (length ts) c (union_of (chosen (pos 1) ts a)) q _ (in_union (chosen (pos 1) ts a) q) e

no_chosen_elements : (xs : List ℤ) (o : ℤ) (a c : NumberSet) (q : ℤ)
    → (not (is_among q (chosen o xs a) =ᴮ contains c q) || is_no_index o (length xs) a q) ≡ true
    → (is_subset a (indices_from o (length xs)) && (c =ˢ from_list (chosen o xs a))) ≡ false
no_chosen_elements xs o a c q e =
    others_chosen a o (length xs) c (from_list (chosen o xs a)) q _ (in_listed q (chosen o xs a)) e

pub in_no_set : (xs : List ℤ) (xo : ℤ) (ss : List NumberSet) (so : ℤ) (w : OneWay)
    → IsInNoSet xs xo ss so w → are_channelled xs xo ss so ≡ false
in_no_set xs xo ss so w h =
    sym (channelled_is xs xo ss so)
    ∙ ap (λ b. b && nat_eq (size_of_all ss) (length xs)) (indexed_fails (λ i x. is_held i x ss so) (λ i ys. are_held i ys ss so) (λ i y ys. refl) xo xs w.place w.value h.there h.none)

-- the index q, of those from j on, is that of an element that is n
abbrev IsAt : ℤ → ℤ → ℤ → List ℤ → Type 0
IsAt q n j ys = (k : ℕ) × (q ≡ (j +ℤ pos k)) × (slice_get ys k ≡ Some n)

listed_at : (q i n : ℤ) (xs : List ℤ) → list_any (int_eq q) (indices_of i xs n) ≡ true
    → IsAt q n i xs
listed_at q i n [] e = absurd (true≢false (sym e))
listed_at q i n (x ∷ xs) e =
    let rest = indices_of (i +ℤ pos 1) xs n in
    elim (x =ℤ n) as (λ b. (x =ℤ n) ≡ b → list_any (int_eq q) (if b then i ∷ rest else rest) ≡ true → IsAt q n i (x ∷ xs)) [
      | true ↦ λ is. elim (int_eq q i) as (λ b. int_eq q i ≡ b → (b || list_any (int_eq q) rest) ≡ true → IsAt q n i (x ∷ xs)) [
        | true ↦ λ same _.
            let first : q ≡ i = same_int q i same in
            (zero, omega (arith, ints), ap Some (same_int x n is))
        | false ↦ λ _ f. later (listed_at q (i +ℤ pos 1) n xs f)
      ] refl
      | false ↦ λ _ f. later (listed_at q (i +ℤ pos 1) n xs f)
    ] refl e
  where
    later : IsAt q n (i +ℤ pos 1) xs → IsAt q n i (x ∷ xs)
    later found = (suc found.0, omega (arith, ints, found.1), found.2)

not_listed : (q i n : ℤ) (xs : List ℤ) (o : Option ℤ) → element_at xs ((q -ℤ i) +ℤ pos 1) ≡ o
    → option_map_or (λ y. y =ℤ n) o false ≡ false → list_any (int_eq q) (indices_of i xs n) ≡ false
not_listed q i n xs o back other =
    false_from_ne_true (list_any (int_eq q) (indices_of i xs n))
    (λ e.
    let found = listed_at q i n xs e in
    let place : ((q -ℤ i) +ℤ pos 1) ≡ pos (suc found.0) = omega (arith, ints, found.1) in
    let is : o ≡ Some n = sym back ∙ ap (element_at xs) place ∙ element_is xs found.0 ∙ found.2 in
    true≢false (sym (ap (λ p. option_map_or (λ y. y =ℤ n) p false) is ∙ int_itself n) ∙ other))

pub no_index_of : (xs : List ℤ) (xo : ℤ) (ss : List NumberSet) (so : ℤ) (w : OneWay)
    → IsNoIndexOf ss so xs xo w → are_channelled xs xo ss so ≡ false
no_index_of xs xo ss so w h =
    let front = list_all (lies_between so ((so +ℤ pos (length ss)) -ℤ pos 1)) xs in
    let n = so +ℤ pos w.place in
    let s = passing (λ s. contains s w.value) (slice_get ss w.place) h.there in
    let none : contains (from_list {R = int_cmp} (indices_of xo xs n)) w.value ≡ false =
    contains-from_list int_cmp_total (indices_of xo xs n) w.value ∙ not_listed w.value xo n xs w.back h.back (elsewhere w.back h.other) in
    ap (λ b. front && b)
    (indexed_fails (λ m t. t =ˢ from_list (indices_of xo xs m)) (λ m ts. sets_are m ts xs xo) (λ m t ts. refl) so ss w.place s.0 s.1
    (not_same s.0 (from_list (indices_of xo xs n)) w.value (λ i. s.2 i =ᴮ none i)))
    ∙ and-false front
  where
    moved : (y : ℤ) → (y =ℤ (so +ℤ pos w.place)) ≡ (((y -ℤ so) +ℤ pos 1) =ℤ pos (suc w.place))
    moved y =
        both_ways (y =ℤ (so +ℤ pos w.place)) (((y -ℤ so) +ℤ pos 1) =ℤ pos (suc w.place))
        (λ e. let is : y ≡ (so +ℤ pos w.place) = same_int _ _ e in (Decides-int_eq ((y -ℤ so) +ℤ pos 1) (pos (suc w.place))).1 (omega (arith, ints)))
        (λ e. let is : ((y -ℤ so) +ℤ pos 1) ≡ pos (suc w.place) = same_int _ _ e in (Decides-int_eq y (so +ℤ pos w.place)).1 (omega (arith, ints)))

    elsewhere : (o : Option ℤ)
        → option_map_or (λ y. ((y -ℤ so) +ℤ pos 1) =ℤ pos (suc w.place)) o false ≡ false
        → option_map_or (λ y. y =ℤ (so +ℤ pos w.place)) o false ≡ false
    elsewhere None e = refl
    elsewhere (Some y) e = moved y ∙ e

-- what is told of the member is so of the sets
there : (b : Builtin) (K : Partial) (xs : List Argument) (m : Member) → IsMisplaced b K xs m
    → is_misplaced b (in_sets b K xs m.number).0 (in_sets b K xs m.number).1 (in_sets b K xs m.number).2
    ≡ true
there b K xs m h =
    (λ i. is_misplaced b (h.places i).0 (h.places i).1 (h.places i).2) ∙ h.misplaced

-- the element at the index isn't the set
no_such_element : (o : Option NumberSet) (c : NumberSet) (q : ℤ)
    → (option_map_or (λ s. sets.contains s q) o false =ᴮ sets.contains c q) ≡ false
    → option_map_or (λ s. s =ˢ c) o false ≡ false
no_such_element None c q e = refl
no_such_element (Some s) c q e = not_same s c q e

no_whole : (ss : List NumberSet) (w : NumberSet) (q : ℤ)
    → (list_any (λ s. sets.contains s q) ss =ᴮ sets.contains w q) ≡ false → is_partition ss w ≡ false
no_whole ss w q e =
    ap (λ b. all_pairs are_disjoint ss && b) (not_same (union_of ss) w q (ap (λ t. t =ᴮ sets.contains w q) (in_union ss q) ∙ e))
    ∙ and-false (all_pairs are_disjoint ss)

-- two sets have an element in common
pub shared_fails : (ss : List NumberSet) (c : Clash) → IsShared ss c → all_pairs are_disjoint ss ≡ false
shared_fails ss c h =
    let one = passing (λ s. sets.contains s c.value) (slice_get ss c.one) h.one in
    let other = passing (λ s. sets.contains s c.value) (slice_get ss c.other) h.other in
    pair_fails are_disjoint ss c.one c.other one.0 other.0 h.order one.1 other.1
    (not_disjoint one.0 other.0 c.value one.2 other.2)

by_place : (b : Builtin) (K : Partial) (xs : List Argument) (q : ℤ)
    → is_misplaced b (in_sets b K xs q).0 (in_sets b K xs q).1 (in_sets b K xs q).2 ≡ true
    → row_outcome (row_at b) K xs ≡ outcomes.Truth false
unfolding row_outcome row_at
by_place builtin.SetEq K xs q e = ap outcomes.Truth (not_same (set_at K xs 0) (set_at K xs 1) q (not-true _ e))
by_place builtin.SetSubset K xs q e = ap outcomes.Truth (not_within (set_at K xs 0) (set_at K xs 1) q (and_first _ _ e) (not-true _ (and_second (sets.contains (set_at K xs 0) q) _ e)))
by_place builtin.SetSuperset K xs q e = ap outcomes.Truth (not_within (set_at K xs 1) (set_at K xs 0) q (and_first _ _ e) (not-true _ (and_second (sets.contains (set_at K xs 1) q) _ e)))
by_place builtin.SetUnion K xs q e = ap outcomes.Truth (no_union (set_at K xs 0) (set_at K xs 1) (set_at K xs 2) q (not-true _ e))
by_place builtin.SetIntersect K xs q e = ap outcomes.Truth (no_intersection (set_at K xs 0) (set_at K xs 1) (set_at K xs 2) q (not-true _ e))
by_place builtin.SetDiff K xs q e = ap outcomes.Truth (no_difference (set_at K xs 0) (set_at K xs 1) (set_at K xs 2) q (not-true _ e))
by_place builtin.SetSymdiff K xs q e = ap outcomes.Truth (no_symmetric_difference (set_at K xs 0) (set_at K xs 1) (set_at K xs 2) q (not-true _ e))
by_place builtin.FznDisjoint K xs q e = ap outcomes.Truth (not_disjoint (set_at K xs 0) (set_at K xs 1) q (and_first _ _ e) (and_second (sets.contains (set_at K xs 0) q) _ e))
by_place builtin.SetConvex K xs q e = ap outcomes.Truth (has_gap (set_at K xs 0) q e)
by_place builtin.ArraySetElement K xs q e = ap outcomes.Truth (no_such_element (element_at (sets_at K xs 1) (int_at K xs 0)) (set_at K xs 2) q (not-true _ e))
by_place builtin.GecodeArraySetElementUnion K xs q e = ap outcomes.Truth (no_chosen_union (set_at K xs 0) (sets_at K xs 1) (set_at K xs 2) q e)
by_place builtin.GecodeRange K xs q e = ap outcomes.Truth (no_chosen_elements (ints_at K xs 0) (int_at K xs 1) (set_at K xs 2) (set_at K xs 3) q e)
by_place builtin.FznPartitionSet K xs q e = ap outcomes.Truth (no_whole (sets_at K xs 0) (set_at K xs 1) q (not-true _ e))
by_place builtin.GecodeLinkSetToBooleans K xs q e = ap outcomes.Truth (not_flagged (set_at K xs 0) (bools_at K xs 1) (int_at K xs 2) q (not-true _ e))
by_place b K xs q e = no e

pub member_fails : (b : Builtin) (K : Partial) (xs : List Argument) (m : Member) → IsMisplaced b K xs m
    → row_outcome (row_at b) K xs ≡ outcomes.Truth false
member_fails b K xs m h = by_place b K xs m.number (there b K xs m h)
