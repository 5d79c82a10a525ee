-- Ranges in order, with a gap between each two, are the only ones that cover what they cover.
use Rattle.std.proofs.Common.{◌≡◌, ℤ, pos, ◌+ℤ◌, ◌≤ℤ◌, ◌||◌, List, [], ◌∷◌, refl, sym, ap, ◌∙◌, inl, inr, arith}
use Rattle.std.proofs.lemmas.Bool.{true≢false}
use Rattle.std.proofs.lemmas.Int.{ints}
use Rattle.fz_base.specs.declared.ranges.Range.{Range}
use Rattle.fz_base.specs.Ranges.{AreInOrder, covers}
use Rattle.fz_base.proofs.Covers.{apart, between_above, covers_below, in_first}

-- what is behind the first range is not covered by it
in_others : (r : Range) (rs : List Range) (x : ℤ) → (r.hi +ℤ pos 1) ≤ℤ x
    → covers (r ∷ rs) x ≡ covers rs x
in_others r rs x h = ap (λ b. b || covers rs x) (between_above r.lo r.hi x (omega (arith, ints)))

module _ (f g : ℤ) (r s : Range) (rs ss : List Range) (order : AreInOrder f (r ∷ rs)) (other : AreInOrder g (s ∷ ss)) (alike : (x : ℤ) → covers (r ∷ rs) x ≡ covers (s ∷ ss) x) where
  -- the first number of the one is in the other
  begins_behind : s.lo ≤ℤ r.lo
  begins_behind =
      let here = in_first r rs r.lo (omega (arith, ints)) order.1 in
      let same = alike r.lo in
      let none = covers_below s.lo r.lo (s ∷ ss) (omega (arith, ints), other.1, other.2, other.3) in
      grind (arith, ints)

  -- the number behind the first range of the other is in none of the other's
  ends_before : r.lo ≡ s.lo → r.hi ≤ℤ s.hi
  ends_before same =
      let next : ℤ = s.hi +ℤ pos 1 in
      let here = in_first r rs next in
      let alike_next = alike next in
      let past = in_others s ss next (omega (arith, ints)) in
      let none = covers_below (s.hi +ℤ pos 2) next ss other.3 (omega (arith, ints)) in
      grind (arith, ints)

  -- the others cover the same, if the first ones are the same
  others_alike : r.hi ≡ s.hi → (x : ℤ) → covers rs x ≡ covers ss x
  others_alike same x =
      elim (apart x (r.hi +ℤ pos 2)) [
        | inl h ↦ covers_below (r.hi +ℤ pos 2) x rs order.3 h ∙ sym (covers_below (s.hi +ℤ pos 2) x ss other.3 (omega (arith, ints)))
        | inr h ↦ sym (in_others r rs x (omega (arith, ints))) ∙ alike x ∙ in_others s ss x (omega (arith, ints))
      ]

-- lists in order that cover the same are the same
pub same_ranges : (f g : ℤ) (rs ss : List Range) → AreInOrder f rs → AreInOrder g ss
    → ((x : ℤ) → covers rs x ≡ covers ss x) → rs ≡ ss
same_ranges f g [] [] o p alike = refl
same_ranges f g [] (s ∷ ss) o p alike = absurd (true≢false (sym (in_first s ss s.lo (omega (arith, ints)) p.1) ∙ sym (alike s.lo)))
same_ranges f g (r ∷ rs) [] o p alike = absurd (true≢false (sym (in_first r rs r.lo (omega (arith, ints)) o.1) ∙ alike r.lo))
same_ranges f g (r ∷ rs) (s ∷ ss) o p alike =
    let behind = begins_behind f g r s rs ss o p alike in
    let before = begins_behind g f s r ss rs p o (λ x. sym (alike x)) in
    let low : r.lo ≡ s.lo = omega (arith, ints) in
    let under = ends_before f g r s rs ss o p alike low in
    let over = ends_before g f s r ss rs p o (λ x. sym (alike x)) (sym low) in
    let high : r.hi ≡ s.hi = omega (arith, ints) in
    let others = same_ranges (r.hi +ℤ pos 2) (s.hi +ℤ pos 2) rs ss o.3 p.3 (others_alike f g r s rs ss o p alike high) in
    λ i. record { lo = low i; hi = high i } ∷ others i
