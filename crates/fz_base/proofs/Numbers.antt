-- Laws of the definitions in specs/Sets.antt (crates above may cite them), and the numbers of
-- ranges as a list and as a set.
use Rattle.std.proofs.Common.{◌≡◌, ℕ, zero, suc, ℤ, pos, negsuc, ◌+ℤ◌, ◌-ℤ◌, ◌≤ℤ◌, ◌<ℤ◌, Bool, true, false, cond, filter, not, ◌&&◌, ◌||◌, List, [], ◌∷◌, ◌++◌, length, refl, sym, ap, ◌∙◌, arith, length-append}
use Rattle.std.specs.List.{list_any, flat_map, sum_by}
use Rattle.std.specs.Ordering.{int_cmp, int_eq, is_lt}
use Rattle.std.specs.Cmp.{int_cmp_total}
use Rattle.std.specs.FinSet.{from_list, contains, difference, len, contains-from_list, contains-union, contains-difference, len-insert, len-empty, same_set, int_cmp-IsAntisymmetric}
use Rattle.std.proofs.lemmas.Int.{ints}
use Rattle.std.proofs.lemmas.List.{append-nil}
use Rattle.std.proofs.lemmas.List.Folds.{list_any-append}
use Rattle.std.proofs.lemmas.List.Sums.{sum_by-cons}
use Rattle.fz_base.specs.declared.ranges.Range.{Range}
use Rattle.fz_base.specs.Sets.{NumberSet, counting_from, at_least_none, count_between, numbers_between, symmetric_difference}
use Rattle.fz_base.specs.Ranges.{highest, numbers_of, AreInOrder, is_between, covers}
use Rattle.fz_base.proofs.Covers.{in_order_from}

-- the length of a range, as it is computed
pub size_is : (lo hi : ℤ) (n : ℕ) → pos n ≡ (hi -ℤ lo) +ℤ pos 1 → n ≡ count_between lo hi
size_is lo hi n e = grind (arith, ints)

-- from lo to lo is lo alone
pub between_one : (lo x : ℤ) → is_between lo lo x ≡ int_eq x lo
between_one lo x = grind (arith, ints)

-- a number is among those counted from lo exactly where it is in their range
counted : (x lo : ℤ) (n : ℕ) → list_any (int_eq x) (counting_from lo n)
    ≡ is_between lo (lo +ℤ pos n -ℤ pos 1) x
unfolding counting_from
counted x lo zero =
    let none : is_between lo (lo +ℤ pos 0 -ℤ pos 1) x ≡ false = grind (arith, ints) in
    sym none
counted x lo (suc n) =
    rw (counted x (lo +ℤ pos 1) n) (step x lo n)
  where
    step : (x lo : ℤ) (n : ℕ) → (int_eq x lo || is_between (lo +ℤ pos 1)
        ((lo +ℤ pos 1) +ℤ pos n -ℤ pos 1) x) ≡ is_between lo (lo +ℤ pos (suc n) -ℤ pos 1) x
    step x lo n = grind (arith, ints)

-- what a sort says of two neighbours
pub not_below : (a b : ℤ) → is_lt (int_cmp a b) ≡ false → b ≤ℤ a
not_below a b h = grind (arith, ints)

-- the numbers of a range
pub list_any-counting_from : (x lo hi : ℤ)
    → list_any (int_eq x) (counting_from lo (count_between lo hi)) ≡ is_between lo hi x
list_any-counting_from x lo hi = at (hi +ℤ pos 1 -ℤ lo) refl
  where
    at : (z : ℤ) → hi +ℤ pos 1 -ℤ lo ≡ z
        → list_any (int_eq x) (counting_from lo (at_least_none z)) ≡ is_between lo hi x
    at (pos n) e =
        let end : lo +ℤ pos n -ℤ pos 1 ≡ hi = omega (arith, ints) in
        counted x lo n ∙ ap (λ h. is_between lo h x) end
    at (negsuc n) e =
        let end : is_between lo (lo +ℤ pos 0 -ℤ pos 1) x ≡ is_between lo hi x = grind (arith, ints) in
        counted x lo 0 ∙ end

list_any-flat_map : (x : ℤ) (rs : List Range) → list_any (int_eq x)
    (flat_map (λ r. counting_from r.lo (count_between r.lo r.hi)) rs) ≡ covers rs x
list_any-flat_map x [] = refl
list_any-flat_map x (r ∷ rs) =
    list_any-append (int_eq x) (counting_from r.lo (count_between r.lo r.hi)) _
    ∙ rw (list_any-counting_from x r.lo r.hi, list_any-flat_map x rs) refl

-- what the set of ranges contains is what they cover
pub contains-numbers_of : (rs : List Range) (x : ℤ) → contains (numbers_of rs) x ≡ covers rs x
unfolding numbers_of
contains-numbers_of rs x = contains-from_list int_cmp_total _ x ∙ list_any-flat_map x rs

pub contains-numbers_between : (lo hi x : ℤ)
    → contains (numbers_between lo hi) x ≡ is_between lo hi x
unfolding numbers_between
contains-numbers_between lo hi x = contains-from_list int_cmp_total _ x ∙ list_any-counting_from x lo hi

-- two sets of integers with the same members are one
pub same_numbers : (s t : NumberSet) → ((x : ℤ) → contains s x ≡ contains t x) → s ≡ t
same_numbers s t = same_set int_cmp_total int_cmp-IsAntisymmetric s t

pub contains-symmetric_difference : (s t : NumberSet) (x : ℤ)
    → contains (symmetric_difference s t) x
    ≡ ((contains s x && not (contains t x)) || (contains t x && not (contains s x)))
contains-symmetric_difference s t x =
    contains-union int_cmp_total (difference s t) (difference t s) x
    ∙ rw (contains-difference int_cmp_total s t x, contains-difference int_cmp_total t s x) refl

-- numbers that rise, from f or above
abbrev Rise : ℤ → List ℤ → Type 0
Rise f [] = Unit {0}
Rise f (k ∷ ks) = (f ≤ℤ k) × Rise (k +ℤ pos 1) ks

Rise-absent : (f x : ℤ) (ks : List ℤ) → Rise f ks → x <ℤ f → list_any (int_eq x) ks ≡ false
Rise-absent f x [] r h = refl
Rise-absent f x (k ∷ ks) r h =
    let other : int_eq x k ≡ false = grind (arith, ints) in
    rw (other, Rise-absent (k +ℤ pos 1) x ks r.1 (omega (arith, ints))) refl

-- a list of numbers that rise has as many as its set
pub len-from_list : (f : ℤ) (ks : List ℤ) → Rise f ks → len (from_list {R = int_cmp} ks) ≡ length ks
len-from_list f [] r = len-empty int_cmp
len-from_list f (k ∷ ks) r =
    let new : contains (from_list {R = int_cmp} ks) k ≡ false = contains-from_list int_cmp_total ks k ∙ Rise-absent (k +ℤ pos 1) k ks r.1 (omega (arith, ints)) in
    len-insert int_cmp_total (from_list ks) k ∙ rw (new, len-from_list (k +ℤ pos 1) ks r.1) (omega arith)

Rise-from : (f g : ℤ) (ks : List ℤ) → g ≤ℤ f → Rise f ks → Rise g ks
Rise-from f g [] h r = tt
Rise-from f g (k ∷ ks) h r = (omega (arith, ints), r.1)

Rise-counting : (f lo : ℤ) (n : ℕ) (ks : List ℤ) → f ≤ℤ lo → Rise (lo +ℤ pos n) ks
    → Rise f (counting_from lo n ++ ks)
unfolding counting_from
Rise-counting f lo zero ks h r = Rise-from (lo +ℤ pos 0) f ks (omega (arith, ints)) r
Rise-counting f lo (suc n) ks h r =
    let same : lo +ℤ pos (suc n) ≡ (lo +ℤ pos 1) +ℤ pos n = omega (arith, ints) in
    (h, Rise-counting (lo +ℤ pos 1) (lo +ℤ pos 1) n ks (omega (arith, ints)) (rw same at r))

pub Rise-counting_from : (lo : ℤ) (n : ℕ) → Rise lo (counting_from lo n)
Rise-counting_from lo n = rw (← append-nil (counting_from lo n)) (Rise-counting lo lo n [] (omega (arith, ints)) tt)

pub Rise-filter : (p : ℤ → Bool) (f : ℤ) (ks : List ℤ) → Rise f ks → Rise f (filter p ks)
Rise-filter p f [] r = tt
Rise-filter p f (k ∷ ks) r =
    let later = Rise-filter p (k +ℤ pos 1) ks r.1 in
    elim (p k) as (λ b. Rise f (cond b (k ∷ filter p ks) (filter p ks))) [
      | true ↦ (r.0, later)
      | false ↦ Rise-from (k +ℤ pos 1) f (filter p ks) (omega (arith, ints)) later
    ]

-- the number after the last of a range
count_between_end : (lo hi : ℤ) → lo ≤ℤ hi → lo +ℤ pos (count_between lo hi) ≡ hi +ℤ pos 1
count_between_end lo hi h = grind (arith, ints)

Rise-flat_map : (f : ℤ) (rs : List Range) → AreInOrder f rs
    → Rise f (flat_map (λ r. counting_from r.lo (count_between r.lo r.hi)) rs)
Rise-flat_map f [] o = tt
Rise-flat_map f (r ∷ rs) o =
    let later = Rise-flat_map (r.hi +ℤ pos 2) rs o.3 in
    Rise-counting f r.lo (count_between r.lo r.hi) _ o.0 (rw (count_between_end r.lo r.hi o.1) (Rise-from (r.hi +ℤ pos 2) (r.hi +ℤ pos 1) _ (omega (arith, ints)) later))

length-counting_from : (lo : ℤ) (n : ℕ) → length (counting_from lo n) ≡ n
unfolding counting_from
length-counting_from lo zero = refl
length-counting_from lo (suc n) = ap suc (length-counting_from (lo +ℤ pos 1) n)

length-flat_map : (rs : List Range)
    → length (flat_map (λ r. counting_from r.lo (count_between r.lo r.hi)) rs)
    ≡ sum_by (λ r. count_between r.lo r.hi) rs
length-flat_map [] = refl
length-flat_map (r ∷ rs) =
    length-append (counting_from r.lo (count_between r.lo r.hi)) _
    ∙ rw (length-counting_from r.lo (count_between r.lo r.hi), length-flat_map rs) (sym (sum_by-cons (λ (q : Range). count_between q.lo q.hi) r rs))

-- how many numbers the set of ranges in order has
pub len-numbers_of : (f : ℤ) (rs : List Range) → AreInOrder f rs
    → len (numbers_of rs) ≡ sum_by (λ r. count_between r.lo r.hi) rs
unfolding numbers_of
len-numbers_of f rs o = len-from_list f _ (Rise-flat_map f rs o) ∙ length-flat_map rs

-- ranges in order that begin at f or above have no more numbers than there are from f on
pub count_up_to : (f : ℤ) (rs : List Range) → AreInOrder f rs → f ≤ℤ (highest +ℤ pos 1)
    → (f +ℤ pos (sum_by (λ r. count_between r.lo r.hi) rs)) ≤ℤ (highest +ℤ pos 1)
count_up_to f [] o h = omega (arith, ints)
count_up_to f (r ∷ rs) o h =
    let next : AreInOrder (r.hi +ℤ pos 1) rs = in_order_from (r.hi +ℤ pos 2) (r.hi +ℤ pos 1) rs (omega (arith, ints)) o.3 in
    let later = count_up_to (r.hi +ℤ pos 1) rs next (omega (arith, ints)) in
    let here = count_between_end r.lo r.hi o.1 in
    rw (sum_by-cons (λ (q : Range). count_between q.lo q.hi) r rs) (omega (arith, ints))
