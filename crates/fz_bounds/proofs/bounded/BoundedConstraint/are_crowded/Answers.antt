use Rattle.std.proofs.Common.{◌≡◌, ◌<◌, ℤ, Some, inl, inr, length, slice_get, subst, arith}
use Rattle.std.proofs.lemmas.Bool.{cases_lt}
use Rattle.fz_model.specs.of_builtins.of_kernel.Given.{ints_at, slots_at}
use Rattle.fz_bounds.specs.Decided.{LiesIn}
use Rattle.fz_bounds.specs.Within.{given}
use Rattle.fz_bounds.proofs.Distinct.{crowded, in_hull}
use Rattle.fz_bounds.proofs.Lists.{is_there, is_within, numbers_counted}
use Rattle.fz_bounds.proofs.bounded.BoundedConstraint.are_crowded.Goals as goal

pub loop-place-init : goal.loop-place-init
loop-place-init c = λ K f. (λ n at. c.number_at-hull.ensures K f n at, λ i n less at. absurd (omega arith))

pub loop-place-preserved : goal.loop-place-preserved
loop-place-preserved c = λ K f.
    let xs = given c.args.self.now in
    let ns = ints_at K xs 0 in
    let p = c.loop-place.place in
    let here : p < length (slots_at xs 0) = omega arith in
    let start : 0 < length (slots_at xs 0) = omega arith in
    let (m, at_m) = is_there K xs 0 p here in
    let (a, at_a) = is_there K xs 0 0 start in
    let (first, before) = c.loop-place.invariant K f in
    let lies = c.number_at.ensures K f m at_m in
    let still : (n : ℤ) → LiesIn c.loop-place.hull n → LiesIn c.hull-hull.result n = λ n h. let (low, high, _, _) = in_hull n m in c.hull-hull.ensures n m n h lies low high in (
      λ n at. still n (first n at),
      λ i n less at. elim (cases_lt i p) [
        | inl l ↦ still n (before i n l at)
        | inr more ↦
            let same : i ≡ p = omega arith in
            let there : slice_get ns p ≡ Some n = subst (λ j. slice_get ns j ≡ Some n) same at in
            let (_, _, low, high) = in_hull a n in
            c.hull-hull.ensures a n n (first a at_a) (c.number_at.ensures K f n there) low high
      ],
    )

pub returns : goal.returns
returns c = λ fewer K f.
    let xs = given c.args.self.now in
    let (_, inside) = c.loop-place.invariant K f in
    crowded c.loop-place.hull (ints_at K xs 0) c.count-count.result (numbers_counted K xs 0 c.count-count.result c.count-count.ensures) (omega arith) (c.has_fewer_than.ensures fewer)
    (λ i n at. let within = is_within K xs 0 i n at in inside i n (omega arith) at)
