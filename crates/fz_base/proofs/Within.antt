-- Whether what ranges cover is covered by others, one range after another.
use Rattle.std.proofs.Common.{◌≡◌, ℤ, pos, ◌+ℤ◌, ◌≤ℤ◌, true, ◌||◌, List, [], ◌∷◌, length, get_or, drop, ◌<◌, FitsSigned, w64, sym, ap, ◌∙◌, arith}
use Rattle.std.specs.Prelude.{◌↔◌}
use Rattle.std.proofs.lemmas.Int.{ints}
use Rattle.fz_base.specs.declared.ranges.Range.{Range}
use Rattle.fz_base.specs.Ranges.{lowest, AreInOrder, LiesIn, ReachesTo, is_between, covers}
use Rattle.fz_base.proofs.Covers.{in_first, covers_below, in_order_at, in_order_from, or-true}

-- ---- the ranges that reach to a number

module _ (at : ℤ) (rs : List Range) (d : Range) (some : 0 < length rs) (order : AreInOrder lowest rs) where
  pub order_past : AreInOrder lowest (drop 1 rs)
  order_past = past rs some order
    where
      past : (qs : List Range) → 0 < length qs → AreInOrder lowest qs
          → AreInOrder lowest (drop 1 qs)
      past [] s o = tt
      past (q ∷ qs) s o = in_order_from (q.hi +ℤ pos 2) lowest qs (omega (arith, ints)) o.3

-- ---- one range in others

-- a number before the first range is in none, and so is the one behind it
pub not_all : (rs : List Range) (d : Range) (lo hi : ℤ) → 0 < length rs → AreInOrder lowest rs
    → ReachesTo lo rs → lo ≤ℤ hi → ((get_or rs 0 d).lo ≤ℤ lo → hi ≤ℤ (get_or rs 0 d).hi → ⊥)
    → ((x : ℤ) → lo ≤ℤ x → x ≤ℤ hi → covers rs x ≡ true) → ⊥
not_all [] d lo hi some order ahead le not_both all = absurd (omega arith)
not_all (r ∷ rs) d lo hi some order ahead le not_both all =
    let next : ℤ = r.hi +ℤ pos 1 in
    let first = all lo (omega (arith, ints)) le in
    let before = covers_below r.lo lo (r ∷ rs) (omega (arith, ints), order.1, order.2, order.3) in
    let behind = all next in
    let none = covers_below (r.hi +ℤ pos 2) next rs order.3 (omega (arith, ints)) in
    grind (arith, ints)

-- ---- one range after another

pub first_low_fits : (rs : List Range) (d : Range) → 0 < length rs → AreInOrder lowest rs
    → FitsSigned w64 (get_or rs 0 d).lo
first_low_fits rs d some order =
    let (le, low, high) = in_order_at lowest rs 0 d order some in
    omega (arith, ints)

pub first_high_fits : (rs : List Range) (d : Range) → 0 < length rs → AreInOrder lowest rs
    → FitsSigned w64 (get_or rs 0 d).hi
first_high_fits rs d some order =
    let (le, low, high) = in_order_at lowest rs 0 d order some in
    omega (arith, ints)

module _ (ss left : List Range) where
  -- what is covered begins at the first range
  begins : (r : Range) (rs : List Range) (x : ℤ) → AreInOrder lowest (r ∷ rs)
      → covers (r ∷ rs) x ≡ true → r.lo ≤ℤ x
  begins r rs x o h = let before = covers_below r.lo x (r ∷ rs) (omega (arith, ints), o.1, o.2, o.3) in grind (arith, ints)

  pub lies_in_more : (rs : List Range) (d : Range) → 0 < length rs → AreInOrder lowest rs
      → ((x : ℤ) → (get_or rs 0 d).lo ≤ℤ x → covers left x ≡ covers ss x)
      → ((x : ℤ) → (get_or rs 0 d).lo ≤ℤ x → x ≤ℤ (get_or rs 0 d).hi → covers left x ≡ true) → (LiesIn (drop 1 rs) left ↔ LiesIn rs ss)
  lies_in_more [] d some order alike all = absurd (omega arith)
  lies_in_more (r ∷ rs) d some order alike all = (
    λ later x h.
        let from : r.lo ≤ℤ x = begins r rs x order h in
        sym (alike x from) ∙ here x from h (later x),
    λ whole x h.
        let in_all : covers (r ∷ rs) x ≡ true = ap (λ b. is_between r.lo r.hi x || b) h ∙ or-true (is_between r.lo r.hi x) in
        alike x (begins r rs x order in_all) ∙ whole x in_all,
  )
    where
      here : (x : ℤ) → r.lo ≤ℤ x → covers (r ∷ rs) x ≡ true → (covers rs x ≡ true → covers left x ≡ true)
          → covers left x ≡ true
      here x from h later = let in_first = all x from in grind (arith, ints)

  pub lies_not_in : (rs : List Range) (d : Range) → 0 < length rs
      → ((x : ℤ) → (get_or rs 0 d).lo ≤ℤ x → covers left x ≡ covers ss x)
      → (((x : ℤ) → (get_or rs 0 d).lo ≤ℤ x → x ≤ℤ (get_or rs 0 d).hi → covers left x ≡ true) → ⊥) → LiesIn rs ss → ⊥
  lies_not_in [] d some alike missing whole = absurd (omega arith)
  lies_not_in (r ∷ rs) d some alike missing whole = missing (λ x h k. alike x h ∙ whole x (in_first r rs x h k))
