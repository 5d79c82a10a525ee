-- Of each variable the point that can give it a value: as one point after another is noted, and at
-- the end.
use Rattle.std.proofs.Common.{◌≡◌, ◌<◌, ◌+◌, ℕ, suc, List, Some, length, slice_get, sym, subst, ◌∙◌}
use borrow.Author.Count.{below_more}
use Rattle.std.proofs.lemmas.Option.{slice_get_within}
use Rattle.fz_index.specs.of_model.Meaning.{Model, Point, points}
use Rattle.fz_index.specs.of_model.Steps.{IsTarget}
use Rattle.fz_filling.specs.Courses.{AreKept, AreLone, IsNoted}

-- the points before this one are noted
abbrev pub AreNoted : Model → List ℕ → ℕ → Type 0
AreNoted m givers k = (j : ℕ) (p : Point) → j < k → slice_get (points m) j ≡ Some p → IsNoted givers j p

pub one_more : (m : Model) (before after : List ℕ) (k : ℕ) (here : Point)
    → slice_get (points m) k ≡ Some here → AreNoted m before k → AreKept before after
    → IsNoted after k here
    → AreNoted m after (k + 1)
one_more m before after k here at noted kept now j p below at' =
    below_more (λ i. (q : Point) → slice_get (points m) i ≡ Some q → IsNoted after i q) k
    (λ i less q there K n target. kept n i (noted i q less there K n target))
    (λ q there K n target.
    let both : Some here ≡ Some q = sym at ∙ there in
    let point : q ≡ here = cc in
    now K n (subst (λ r. IsTarget K r n) point target)) j below p at'

pub lone_at_end : (m : Model) (givers : List ℕ) (k : ℕ) → k ≡ length (points m)
    → AreNoted m givers k → AreLone m
lone_at_end m givers k all noted K L i j n p q at at' first second =
    let one : slice_get givers n ≡ Some (suc i) = noted i p (subst (λ z. i < z) (sym all) (slice_get_within (points m) i p at)) at K n first in
    let other : slice_get givers n ≡ Some (suc j) = noted j q (subst (λ z. j < z) (sym all) (slice_get_within (points m) j q at')) at' L n second in
    let same : Some (suc i) ≡ Some (suc j) = sym one ∙ other in cc
