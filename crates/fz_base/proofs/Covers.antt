-- Facts on ranges in order, and on the numbers that they cover.
use Rattle.std.proofs.Common.{◌≡◌, ◌≤◌, ℤ, pos, ◌+ℤ◌, ◌-ℤ◌, ◌≤ℤ◌, ◌<ℤ◌, true, false, ◌||◌, ◌⊎◌, List, [], ◌∷◌, ◌++◌, length, get_or, drop, take, ℕ, zero, suc, ◌+◌, ◌<◌, refl, sym, ap, ◌∙◌, arith, FitsSigned, w64}
use Rattle.std.specs.Prelude.{int_le}
use Rattle.std.proofs.Math.Bool.{or_assoc}
use Rattle.std.proofs.lemmas.Bool.{true≢false}
use Rattle.std.proofs.lemmas.Int.{ints}
use Rattle.std.proofs.lemmas.List.{take_more}
use Rattle.fz_base.specs.declared.ranges.Range.{Range}
use Rattle.fz_base.specs.Ranges.{lowest, highest, AreInOrder, CoversOnly, EndUpTo, is_between, covers}
-- laws of tests, which crates above cite from here
pub use Rattle.std.proofs.Math.Bool.{and-false, and-true, or-false, or-true}

-- a range to read where a list has none
abbrev pub nowhere : Range
nowhere = record { lo = pos 0; hi = pos 0 }

-- x is below z, or not
pub apart : (x z : ℤ) → (x <ℤ z) ⊎ (z ≤ℤ x)
apart x z = grind (arith, ints)

pub at_most_yes : (x z : ℤ) → x ≤ℤ z → int_le x z ≡ true
at_most_yes x z h = grind (arith, ints)

pub between_yes : (lo hi x : ℤ) → lo ≤ℤ x → x ≤ℤ hi → is_between lo hi x ≡ true
between_yes lo hi x h k = grind (arith, ints)

pub between_below : (lo hi x : ℤ) → x <ℤ lo → is_between lo hi x ≡ false
between_below lo hi x h = grind (arith, ints)

pub between_above : (lo hi x : ℤ) → hi <ℤ x → is_between lo hi x ≡ false
between_above lo hi x h = grind (arith, ints)

-- a range that may begin below f may begin below any number under f
pub in_order_from : (f g : ℤ) (rs : List Range) → g ≤ℤ f → AreInOrder f rs → AreInOrder g rs
in_order_from f g [] h o = tt
in_order_from f g (r ∷ rs) h o = (omega (arith, ints), o.1, o.2, o.3)

pub covers_below : (f x : ℤ) (rs : List Range) → AreInOrder f rs → x <ℤ f → covers rs x ≡ false
covers_below f x [] o h = refl
covers_below f x (r ∷ rs) o h =
    let low : x <ℤ r.lo = omega (arith, ints) in
    let lower : x <ℤ (r.hi +ℤ pos 2) = omega (arith, ints) in
    rw (between_below r.lo r.hi x low) (covers_below (r.hi +ℤ pos 2) x rs o.3 lower)

pub covers_beyond : (e x : ℤ) (rs : List Range) → EndUpTo e rs → e <ℤ x → covers rs x ≡ false
covers_beyond e x [] b h = refl
covers_beyond e x (r ∷ rs) b h =
    let high : r.hi <ℤ x = omega (arith, ints) in
    rw (between_above r.lo r.hi x high) (covers_beyond e x rs b.1 h)

pub ends_up_to_highest : (f : ℤ) (rs : List Range) → AreInOrder f rs → EndUpTo highest rs
ends_up_to_highest f [] o = tt
ends_up_to_highest f (r ∷ rs) o = (o.2, ends_up_to_highest (r.hi +ℤ pos 2) rs o.3)

pub ends_further : (d e : ℤ) (rs : List Range) → d ≤ℤ e → EndUpTo d rs → EndUpTo e rs
ends_further d e [] h b = tt
ends_further d e (r ∷ rs) h b = (omega (arith, ints), ends_further d e rs h b.1)

pub covers-append : (rs ss : List Range) (x : ℤ)
    → covers (rs ++ ss) x ≡ (covers rs x || covers ss x)
covers-append [] ss x = refl
covers-append (r ∷ rs) ss x = ap (λ b. is_between r.lo r.hi x || b) (covers-append rs ss x) ∙ sym (or_assoc (is_between r.lo r.hi x) (covers rs x) (covers ss x))

-- what the first ranges cover with one more
pub covers_more : (rs : List Range) (k : ℕ) (d : Range) (x : ℤ) → k < length rs
    → covers (take (k + 1) rs) x ≡
    (covers (take k rs) x || is_between (get_or rs k d).lo (get_or rs k d).hi x)
covers_more rs k d x h = rw (take_more rs k d h) (covers-append (take k rs) (get_or rs k d ∷ []) x ∙ ap (λ b. covers (take k rs) x || b) (or-false (is_between (get_or rs k d).lo (get_or rs k d).hi x)))

-- what holds of each part of ranges in order
pub in_order_split : (f : ℤ) (rs : List Range) (r : Range) (ss : List Range)
    → AreInOrder f (rs ++ r ∷ ss) → AreInOrder f rs × EndUpTo (r.lo -ℤ pos 2) rs
    × AreInOrder f (r ∷ ss)
in_order_split f [] r ss o = (tt, tt, o)
in_order_split f (q ∷ rs) r ss o =
    let parts = in_order_split (q.hi +ℤ pos 2) rs r ss o.3 in
    let far : (q.hi +ℤ pos 2) ≤ℤ r.lo = parts.2.0 in
    let near : f ≤ℤ (q.hi +ℤ pos 2) = omega (arith, ints) in
    ((o.0, o.1, o.2, parts.0), (omega (arith, ints), parts.1), in_order_from (q.hi +ℤ pos 2) f (r ∷ ss) near parts.2)

-- a range after all others, with a gap before it
pub in_order_push : (f : ℤ) (rs : List Range) (r : Range) → AreInOrder f rs
    → EndUpTo (r.lo -ℤ pos 2) rs → f ≤ℤ r.lo → r.lo ≤ℤ r.hi → r.hi ≤ℤ highest
    → AreInOrder f (rs ++ r ∷ [])
in_order_push f [] r o b low some high = (low, some, high, tt)
in_order_push f (q ∷ rs) r o b low some high = (o.0, o.1, o.2, in_order_push (q.hi +ℤ pos 2) rs r o.3 b.1 (omega (arith, ints)) some high)

pub ends_push : (e : ℤ) (rs : List Range) (r : Range) → EndUpTo e rs → r.hi ≤ℤ e
    → EndUpTo e (rs ++ r ∷ [])
ends_push e [] r b h = (h, tt)
ends_push e (q ∷ rs) r b h = (b.0, ends_push e rs r b.1 h)

pub ends_last : (e : ℤ) (rs : List Range) (r : Range) → EndUpTo e (rs ++ r ∷ [])
    → EndUpTo e rs × (r.hi ≤ℤ e)
ends_last e [] r b = (tt, b.0)
ends_last e (q ∷ rs) r b = let rest = ends_last e rs r b.1 in ((b.0, rest.0), rest.1)

-- a number before the first range
pub covers_before : (f x : ℤ) (rs : List Range) (d : Range) → AreInOrder f rs
    → x <ℤ (get_or rs 0 d).lo → covers rs x ≡ false
covers_before f x [] d o h = refl
covers_before f x (r ∷ rs) d o h = covers_below r.lo x (r ∷ rs) (omega (arith, ints), o.1, o.2, o.3) h

module _ (f lo hi : ℤ) (old front new : List Range) (last : Range) (was : old ≡ front ++ last ∷ []) (order : AreInOrder f old) (below : EndUpTo lo old) (some : lo ≤ℤ hi) (high : hi ≤ℤ highest) where
  -- the last range, made longer
  pub joined_in_order : new ≡ front ++ record { lo = last.lo; hi = hi } ∷ [] → AreInOrder f new
  joined_in_order is =
      let parts = in_order_split f front last [] (rw was at order) in
      let ends : last.hi ≤ℤ lo = (ends_last lo front last (rw was at below)).1 in
      let start : last.lo ≤ℤ last.hi = parts.2.1 in
      rw is (in_order_push f front (record { lo = last.lo; hi = hi }) parts.0 parts.1 parts.2.0 (omega (arith, ints)) high)

  pub joined_ends : new ≡ front ++ record { lo = last.lo; hi = hi } ∷ [] → EndUpTo hi new
  joined_ends is =
      let ends = ends_last lo front last (rw was at below) in
      rw is (ends_push hi front (record { lo = last.lo; hi = hi }) (ends_further lo hi front some ends.0) (omega (arith, ints)))

  pub joined_covers : new ≡ front ++ record { lo = last.lo; hi = hi } ∷ [] → lo ≤ℤ (last.hi +ℤ pos 1) → (x : ℤ) → covers new x ≡ (covers old x || is_between lo hi x)
  joined_covers is touch x =
      let parts = in_order_split f front last [] (rw was at order) in
      let ends : last.hi ≤ℤ lo = (ends_last lo front last (rw was at below)).1 in
      let start : last.lo ≤ℤ last.hi = parts.2.1 in
      let longer : (is_between last.lo hi x || false) ≡ ((is_between last.lo last.hi x || false) || is_between lo hi x) = grind (arith, ints) in
      rw (is, was, covers-append, covers-append) (ap (λ b. covers front x || b) longer ∙ sym (or_assoc (covers front x) (is_between last.lo last.hi x || false) (is_between lo hi x)))

  -- a range of its own
  pub apart_in_order : new ≡ (front ++ last ∷ []) ++ record { lo = lo; hi = hi } ∷ [] → (last.hi +ℤ pos 1) <ℤ lo → AreInOrder f new
  apart_in_order is gap =
      let parts = in_order_split f front last [] (rw was at order) in
      let first : f ≤ℤ last.lo = parts.2.0 in
      let start : last.lo ≤ℤ last.hi = parts.2.1 in
      let before : EndUpTo (lo -ℤ pos 2) (front ++ last ∷ []) = ends_push (lo -ℤ pos 2) front last (ends_further (last.lo -ℤ pos 2) (lo -ℤ pos 2) front (omega (arith, ints)) parts.1) (omega (arith, ints)) in
      rw is (in_order_push f (front ++ last ∷ []) (record { lo = lo; hi = hi }) (rw was at order) before (omega (arith, ints)) some high)

  pub apart_ends : new ≡ (front ++ last ∷ []) ++ record { lo = lo; hi = hi } ∷ [] → EndUpTo hi new
  apart_ends is = rw is (ends_push hi (front ++ last ∷ []) (record { lo = lo; hi = hi }) (ends_further lo hi (front ++ last ∷ []) some (rw was at below)) (omega (arith, ints)))

  pub apart_covers : new ≡ (front ++ last ∷ []) ++ record { lo = lo; hi = hi } ∷ [] → (x : ℤ) → covers new x ≡ (covers old x || is_between lo hi x)
  apart_covers is x = rw (is, was, covers-append (front ++ last ∷ []) (record { lo = lo; hi = hi } ∷ []) x) (ap (λ b. covers (front ++ last ∷ []) x || b) (or-false (is_between lo hi x)))

-- one range among those in order
pub in_order_at : (f : ℤ) (rs : List Range) (k : ℕ) (d : Range) → AreInOrder f rs → k < length rs
    → ((get_or rs k d).lo ≤ℤ (get_or rs k d).hi) × (f ≤ℤ (get_or rs k d).lo)
    × ((get_or rs k d).hi ≤ℤ highest)
in_order_at f [] k d o h = absurd (omega arith)
in_order_at f (r ∷ rs) zero d o h = (o.1, o.0, o.2)
in_order_at f (r ∷ rs) (suc k) d o h =
    let later = in_order_at (r.hi +ℤ pos 2) rs k d o.3 (omega arith) in
    (later.0, omega (arith, ints), later.2)

-- ranges in order that are cut in two before the first of `back`
module _ (f x : ℤ) (rest front back : List Range) (d : Range) (cut : rest ≡ front ++ back) (some : 0 < length back) (order : AreInOrder f rest) where
  split_first : (y : ℤ) (bs : List Range) → rest ≡ front ++ bs → 0 < length bs
      → (AreInOrder f front × EndUpTo ((get_or bs 0 d).lo -ℤ pos 2) front × AreInOrder f bs
      × AreInOrder f (drop 1 bs))
  split_first y [] e h = absurd (omega arith)
  split_first y (r ∷ bs) e h =
      let parts = in_order_split f front r bs (rw e at order) in
      (parts.0, parts.1, parts.2, in_order_from (r.hi +ℤ pos 2) f bs (omega (arith, ints)) parts.2.3)

  pub front_in_order : AreInOrder f front
  front_in_order = (split_first x back cut some).0

  pub others_in_order : AreInOrder f (drop 1 back)
  others_in_order = (split_first x back cut some).3

  pub covers_front : x <ℤ (get_or back 0 d).lo → covers front x ≡ covers rest x
  covers_front h = rw (cut, covers-append, covers_before f x back d (split_first x back cut some).2 h, or-false (covers front x))

  before_back : (get_or back 0 d).lo ≤ℤ x → covers rest x ≡ covers back x
  before_back h =
      let gap : ((get_or back 0 d).lo -ℤ pos 2) <ℤ x = omega (arith, ints) in
      rw (cut, covers-append, covers_beyond ((get_or back 0 d).lo -ℤ pos 2) x front (split_first x back cut some).1 gap)

  first_of : (bs : List Range) → 0 < length bs
      → covers bs x ≡ (is_between (get_or bs 0 d).lo (get_or bs 0 d).hi x || covers (drop 1 bs) x)
  first_of [] h = absurd (omega arith)
  first_of (r ∷ bs) h = refl

  pub covers_first : (get_or back 0 d).lo ≤ℤ x → x ≤ℤ (get_or back 0 d).hi → covers rest x ≡ true
  covers_first h k = before_back h ∙ first_of back some ∙ rw (between_yes (get_or back 0 d).lo (get_or back 0 d).hi x h k)

  pub covers_others : (get_or back 0 d).lo ≤ℤ x → (get_or back 0 d).hi <ℤ x
      → covers (drop 1 back) x ≡ covers rest x
  covers_others h k = sym (before_back h ∙ first_of back some ∙ rw (between_above (get_or back 0 d).lo (get_or back 0 d).hi x k))

-- the last range, at index k
pub ends_at_last : (f : ℤ) (rs : List Range) (k : ℕ) (d : Range) → AreInOrder f rs
    → length rs ≡ k + 1 → EndUpTo (get_or rs k d).hi rs
ends_at_last f [] k d o e = tt
ends_at_last f (r ∷ []) zero d o e = (omega (arith, ints), tt)
ends_at_last f (r ∷ (q ∷ rs)) (suc k) d o e =
    let place : k < length (q ∷ rs) = omega arith in
    let at = in_order_at (r.hi +ℤ pos 2) (q ∷ rs) k d o.3 place in
    (omega (arith, ints), ends_at_last (r.hi +ℤ pos 2) (q ∷ rs) k d o.3 (omega arith))
ends_at_last f _ _ d o e = absurd (omega arith)

-- both ends of each range are covered
pub covers_end : (f : ℤ) (rs : List Range) (k : ℕ) (d : Range) → AreInOrder f rs → k < length rs
    → covers rs (get_or rs k d).hi ≡ true
covers_end f [] k d o h = absurd (omega arith)
covers_end f (r ∷ rs) zero d o h = rw (between_yes r.lo r.hi r.hi o.1 (omega (arith, ints))) refl
covers_end f (r ∷ rs) (suc k) d o h = rw (covers_end (r.hi +ℤ pos 2) rs k d o.3 (omega arith)) (or-true (is_between r.lo r.hi (get_or rs k d).hi))

-- what is covered lies between the ends
pub covered_from : (f x : ℤ) (rs : List Range) (d : Range) → AreInOrder f rs → covers rs x ≡ true
    → (get_or rs 0 d).lo ≤ℤ x
covered_from f x rs d o c = let before = covers_before f x rs d o in grind (arith, ints)

pub covered_up_to : (f x : ℤ) (rs : List Range) (k : ℕ) (d : Range) → AreInOrder f rs
    → length rs ≡ k + 1 → covers rs x ≡ true → x ≤ℤ (get_or rs k d).hi
covered_up_to f x rs k d o e c = let beyond = covers_beyond (get_or rs k d).hi x rs (ends_at_last f rs k d o e) in grind (arith, ints)

-- what ranges in order cover has 64 bits
pub covered_fits : (x : ℤ) (rs : List Range) → AreInOrder lowest rs → covers rs x ≡ true
    → FitsSigned w64 x
covered_fits x rs o c =
    let below = covers_below lowest x rs o in
    let beyond = covers_beyond highest x rs (ends_up_to_highest lowest rs o) in
    grind (arith, ints)

-- ---- ranges that cover one number alone

pub in_first : (r : Range) (rs : List Range) (x : ℤ) → r.lo ≤ℤ x → x ≤ℤ r.hi
    → covers (r ∷ rs) x ≡ true
in_first r rs x low high = ap (λ b. b || covers rs x) (between_yes r.lo r.hi x low high)

in_later : (r : Range) (rs : List Range) (x : ℤ) → covers rs x ≡ true → covers (r ∷ rs) x ≡ true
in_later r rs x h = ap (λ b. is_between r.lo r.hi x || b) h ∙ or-true (is_between r.lo r.hi x)

-- no range covers none
pub only_not_none : (rs : List Range) → length rs < 1 → (n : ℤ) → CoversOnly n rs → ⊥
only_not_none [] few n h = absurd (true≢false (sym ((h n).1 refl)))
only_not_none (r ∷ rs) few n h = absurd (omega arith)

-- a range with two ends covers both
pub only_not_apart : (f : ℤ) (rs : List Range) (d : Range) → AreInOrder f rs → 1 ≤ length rs
    → ((get_or rs 0 d).lo ≡ (get_or rs 0 d).hi → ⊥) → (n : ℤ) → CoversOnly n rs → ⊥
only_not_apart f [] d o few apart n h = absurd (omega arith)
only_not_apart f (r ∷ rs) d o few apart n h =
    let low : r.lo ≡ n = (h r.lo).0 (in_first r rs r.lo (omega (arith, ints)) o.1) in
    let high : r.hi ≡ n = (h r.hi).0 (in_first r rs r.hi o.1 (omega (arith, ints))) in
    apart (low ∙ sym high)

-- two ranges cover two
pub only_not_two : (f : ℤ) (rs : List Range) → AreInOrder f rs → 2 ≤ length rs → (n : ℤ)
    → CoversOnly n rs → ⊥
only_not_two f (r ∷ q ∷ rs) o many n h =
    let low : r.lo ≡ n = (h r.lo).0 (in_first r (q ∷ rs) r.lo (omega (arith, ints)) o.1) in
    let high : q.lo ≡ n = (h q.lo).0 (in_later r (q ∷ rs) q.lo (in_first q rs q.lo (omega (arith, ints)) o.3.1)) in
    absurd (omega (arith, ints))
only_not_two f _ o many n h = absurd (omega arith)
