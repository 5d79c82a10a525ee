-- Sets that have no element in common, and a set that is taken apart.
use Rattle.std.proofs.Common.{◌≡◌, ℕ, ◌+◌, ◌≤◌, ◌↔◌, ℤ, Bool, true, false, not, ◌&&◌, ◌||◌, List, [], ◌∷◌, drop, length, nat_eq, Some, slice_get, refl, sym, ap, ◌∙◌, arith}
use Rattle.std.specs.List.{list_all}
use Rattle.std.specs.Ordering.{int_cmp}
use Rattle.std.specs.Cmp.{int_cmp_total, both_ways}
use Rattle.std.proofs.lemmas.Bool.Decides.{nat_tests}
use Rattle.std.specs.FinSet.{contains, empty, union, intersection, difference, is_subset, len, contains-empty, contains-union, contains-intersection, contains-difference, is_subset-contains, contains-is_subset, empty_of_len, len-empty}
use Rattle.fz_kernel.proofs.of_meaning.of_base.Covers.{and-false}
use Rattle.fz_kernel.specs.of_meaning.of_base.Sets.{NumberSet}
use Rattle.fz_kernel.proofs.of_meaning.of_base.Numbers.{same_numbers}
use Rattle.fz_kernel.specs.of_meaning.Relations.{◌=ˢ◌, all_pairs, are_disjoint, is_partition, union_of}
use Rattle.fz_kernel.proofs.of_meaning.Values.{no, and_first, and_second, and_both, same_truth, same_set_is, set_itself}
use Rattle.fz_kernel.proofs.Left.{next, none_left}

-- ---- sets that are disjoint

pub disjoint_gives : (s t : NumberSet) → are_disjoint s t ≡ true → (q : ℤ)
    → (contains s q && contains t q) ≡ false
disjoint_gives s t e q = sym (contains-intersection int_cmp_total s t q) ∙ ap (λ u. contains u q) (same_set_is (intersection s t) empty e) ∙ contains-empty int_cmp q

pub gives_disjoint : (s t : NumberSet) → ((q : ℤ) → (contains s q && contains t q) ≡ false)
    → are_disjoint s t ≡ true
gives_disjoint s t apart =
    let none : intersection s t ≡ empty = same_numbers (intersection s t) empty (λ q. contains-intersection int_cmp_total s t q ∙ apart q ∙ sym (contains-empty int_cmp q)) in
    ap (λ u. u =ˢ empty) none ∙ set_itself empty

pub told_disjoint : (r : Bool) (s t : NumberSet) → (r ≡ true ↔ (s ≡ difference s t))
    → r ≡ are_disjoint s t
told_disjoint r s t h =
    same_truth r (are_disjoint s t)
    (λ e. gives_disjoint s t (λ q. apart (contains s q) (contains t q) (ap (λ u. contains u q) (h.0 e) ∙ contains-difference int_cmp_total s t q)))
    (λ e. h.1 (same_numbers s (difference s t) (λ q. kept (contains s q) (contains t q) (disjoint_gives s t e q) ∙ sym (contains-difference int_cmp_total s t q))))
  where
    apart : (a b : Bool) → a ≡ (a && not b) → (a && b) ≡ false
    apart true true e = e
    apart true false e = refl
    apart false b e = refl

    kept : (a b : Bool) → (a && b) ≡ false → a ≡ (a && not b)
    kept true true e = e
    kept true false e = refl
    kept false b e = refl

-- ---- one part after another

all_apart : (s : NumberSet) (ss : List NumberSet) → list_all (are_disjoint s) ss ≡ true → (q : ℤ)
    → (contains s q && contains (union_of ss) q) ≡ false
all_apart s [] e q = ap (λ b. contains s q && b) (contains-empty int_cmp q) ∙ and-false (contains s q)
all_apart s (t ∷ ss) e q =
    ap (λ b. contains s q && b) (contains-union int_cmp_total t (union_of ss) q)
    ∙ neither (contains s q) (contains t q) (contains (union_of ss) q)
    (disjoint_gives s t (and_first (are_disjoint s t) (list_all (are_disjoint s) ss) e) q)
    (all_apart s ss (and_second (are_disjoint s t) (list_all (are_disjoint s) ss) e) q)
  where
    neither : (a b c : Bool) → (a && b) ≡ false → (a && c) ≡ false → (a && (b || c)) ≡ false
    neither true true c h k = h
    neither true false c h k = k
    neither false b c h k = refl

apart_all : (s : NumberSet) (ss : List NumberSet) → ((q : ℤ)
    → (contains s q && contains (union_of ss) q) ≡ false) → list_all (are_disjoint s) ss ≡ true
apart_all s [] apart = refl
apart_all s (t ∷ ss) apart =
    let both : (q : ℤ) → (contains s q && (contains t q || contains (union_of ss) q)) ≡ false = λ q. ap (λ b. contains s q && b) (sym (contains-union int_cmp_total t (union_of ss) q)) ∙ apart q in
    and_both (are_disjoint s t) (list_all (are_disjoint s) ss)
    (gives_disjoint s t (λ q. not_first (contains s q) (contains t q) (contains (union_of ss) q) (both q)))
    (apart_all s ss (λ q. not_second (contains s q) (contains t q) (contains (union_of ss) q) (both q)))
  where
    not_first : (a b c : Bool) → (a && (b || c)) ≡ false → (a && b) ≡ false
    not_first true true c h = h
    not_first true false c h = refl
    not_first false b c h = refl

    not_second : (a b c : Bool) → (a && (b || c)) ≡ false → (a && c) ≡ false
    not_second true true c h = no (sym h)
    not_second true false c h = h
    not_second false b c h = refl

module _ (s : NumberSet) (ss : List NumberSet) (w : NumberSet) where
  taken : is_partition (s ∷ ss) w ≡ true
      → (is_subset s w && is_partition ss (difference w s)) ≡ true
  taken e =
      let pairs : (list_all (are_disjoint s) ss && all_pairs are_disjoint ss) ≡ true = and_first (list_all (are_disjoint s) ss && all_pairs are_disjoint ss) (union s (union_of ss) =ˢ w) e in
      let whole : union s (union_of ss) ≡ w = same_set_is (union s (union_of ss)) w (and_second (list_all (are_disjoint s) ss && all_pairs are_disjoint ss) (union s (union_of ss) =ˢ w) e) in
      let in_whole : (q : ℤ) → contains w q ≡ (contains s q || contains (union_of ss) q) = λ q. ap (λ u. contains u q) (sym whole) ∙ contains-union int_cmp_total s (union_of ss) q in
      let rest : union_of ss ≡ difference w s =
      same_numbers (union_of ss) (difference w s)
      (λ q. other (contains s q) (contains (union_of ss) q) (contains w q) (in_whole q) (all_apart s ss (and_first (list_all (are_disjoint s) ss) (all_pairs are_disjoint ss) pairs) q)
      ∙ sym (contains-difference int_cmp_total w s q)) in
      and_both (is_subset s w) (is_partition ss (difference w s))
      (contains-is_subset int_cmp_total s w (λ q in_s. in_whole q ∙ ap (λ b. b || contains (union_of ss) q) in_s))
      (and_both (all_pairs are_disjoint ss) (union_of ss =ˢ difference w s) (and_second (list_all (are_disjoint s) ss) (all_pairs are_disjoint ss) pairs)
      (ap (λ u. u =ˢ difference w s) rest ∙ set_itself (difference w s)))
    where
      other : (a b c : Bool) → c ≡ (a || b) → (a && b) ≡ false → b ≡ (c && not a)
      other true true c is h = no (sym h)
      other true false true is h = refl
      other true false false is h = refl
      other false b true is h = sym is
      other false b false is h = sym is

  put_back : (is_subset s w && is_partition ss (difference w s)) ≡ true
      → is_partition (s ∷ ss) w ≡ true
  put_back e =
      let inside : is_subset s w ≡ true = and_first (is_subset s w) (is_partition ss (difference w s)) e in
      let parted : is_partition ss (difference w s) ≡ true = and_second (is_subset s w) (is_partition ss (difference w s)) e in
      let pairs : all_pairs are_disjoint ss ≡ true = and_first (all_pairs are_disjoint ss) (union_of ss =ˢ difference w s) parted in
      let rest : union_of ss ≡ difference w s = same_set_is (union_of ss) (difference w s) (and_second (all_pairs are_disjoint ss) (union_of ss =ˢ difference w s) parted) in
      let in_rest : (q : ℤ) → contains (union_of ss) q ≡ (contains w q && not (contains s q)) = λ q. ap (λ u. contains u q) rest ∙ contains-difference int_cmp_total w s q in
      let whole : union s (union_of ss) ≡ w =
      same_numbers (union s (union_of ss)) w
      (λ q. contains-union int_cmp_total s (union_of ss) q ∙ ap (λ b. contains s q || b) (in_rest q) ∙ joined (contains s q) (contains w q) (is_subset-contains int_cmp_total s w inside q)) in
      and_both (list_all (are_disjoint s) ss && all_pairs are_disjoint ss) (union s (union_of ss) =ˢ w)
      (and_both (list_all (are_disjoint s) ss) (all_pairs are_disjoint ss) (apart_all s ss (λ q. ap (λ b. contains s q && b) (in_rest q) ∙ never (contains s q) (contains w q))) pairs)
      (ap (λ u. u =ˢ w) whole ∙ set_itself w)
    where
      never : (a b : Bool) → (a && (b && not a)) ≡ false
      never true true = refl
      never true false = refl
      never false b = refl

      joined : (a b : Bool) → (a ≡ true → b ≡ true) → (a || (b && not a)) ≡ b
      joined true b h = sym (h refl)
      joined false true h = refl
      joined false false h = refl

  pub one_part : is_partition (s ∷ ss) w ≡ (is_subset s w && is_partition ss (difference w s))
  one_part = both_ways (is_partition (s ∷ ss) w) (is_subset s w && is_partition ss (difference w s)) taken put_back

module _ (ss : List NumberSet) (i : ℕ) (w : NumberSet) (r : Bool) (so_far : r ≡ is_partition (drop i ss) w) where
  module _ (s : NumberSet) (at : slice_get ss i ≡ Some s) where
    one : r ≡ (is_subset s w && is_partition (drop (i + 1) ss) (difference w s))
    one = so_far ∙ ap (λ l. is_partition l w) (next ss i s at) ∙ one_part s (drop (i + 1) ss) w

    pub takes_part : (v : NumberSet) → v ≡ difference w s → is_subset s w ≡ true
        → r ≡ is_partition (drop (i + 1) ss) v
    takes_part v is inside = one ∙ ap (λ b. b && is_partition (drop (i + 1) ss) (difference w s)) inside ∙ ap (is_partition (drop (i + 1) ss)) (sym is)

    pub is_no_part : is_subset s w ≡ false → false ≡ r
    is_no_part no_subset = sym (one ∙ ap (λ b. b && is_partition (drop (i + 1) ss) (difference w s)) no_subset)

  pub all_taken : length ss ≤ i → nat_eq (len w) 0 ≡ r
  all_taken end = sym (so_far ∙ ap (λ l. is_partition l w) (none_left ss i end) ∙ nothing)
    where
      is_zero : (n : ℕ) → nat_eq n 0 ≡ true → n ≡ 0
      is_zero n e = grind (arith, nat_tests)

      nothing : (empty =ˢ w) ≡ nat_eq (len w) 0
      nothing =
          both_ways (empty =ˢ w) (nat_eq (len w) 0)
          (λ e. ap (λ u. nat_eq (len u) 0) (sym (same_set_is empty w e)) ∙ ap (λ n. nat_eq n 0) (len-empty int_cmp))
          (λ e. ap (λ u. empty =ˢ u) (empty_of_len w (is_zero (len w) e)) ∙ set_itself empty)
