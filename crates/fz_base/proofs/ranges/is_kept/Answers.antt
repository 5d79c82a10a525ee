use Rattle.std.proofs.Common.{◌≡◌, ◌+ℤ◌, pos, FitsSigned, w64, to_z, refl, ◌∙◌, arith, rules}
use Rattle.std.proofs.lemmas.Int.{ints, to_z-of_z}
use Rattle.fz_base.specs.Ranges.{highest, keeps}
use Rattle.fz_base.proofs.Walk.{reaches_lowest, agree_below, agree_more, agree_all, tests_same}
use Rattle.fz_base.proofs.ranges.is_kept.Goals as goal

pub walk-init : goal.walk-init
walk-init c = search (rules, reaches_lowest, agree_below)

pub walk-preserved : goal.walk-preserved
walk-preserved c =
    let s = c.common_stretch-in_a in
    let fits : FitsSigned w64 s.result.3 = search rules in
    let fits_next : FitsSigned w64 (s.result.3 +ℤ pos 1) = omega (arith, ints) in
    let here : s.result.2 ≡ keeps c.args.rule s.result.0 s.result.1 = tests_same s.result.2 c.keeps-wanted.result _ c.if-in_c-wanted.false c.keeps-wanted.ensures in
    simp to_z-of_z (record {
      a_in_order = c.past-rest_a.ensures.in_order;
      b_in_order = c.past-rest_b.ensures.in_order;
      c_in_order = c.past-rest_c.ensures.in_order;
      a_ahead = simp to_z-of_z at c.past-rest_a.ensures.ahead;
      b_ahead = simp to_z-of_z at c.past-rest_b.ensures.ahead;
      c_ahead = simp to_z-of_z at c.past-rest_c.ensures.ahead;
      a_same = λ x h. (simp to_z-of_z at c.past-rest_a.ensures.alike) x (omega (arith, ints)) ∙ c.walk.invariant.a_same x (omega (arith, ints));
      b_same = λ x h. (simp to_z-of_z at c.past-rest_b.ensures.alike) x (omega (arith, ints)) ∙ c.walk.invariant.b_same x (omega (arith, ints));
      c_same = λ x h. (simp to_z-of_z at c.past-rest_c.ensures.alike) x (omega (arith, ints)) ∙ c.walk.invariant.c_same x (omega (arith, ints));
      agree = λ x h. agree_more c.args.rule s.result.0 s.result.1 s.result.2 (to_z w64 c.walk.at-bits) s.result.3 c.args.a.now c.args.b.now c.args.c.now c.walk.rest_a.now c.walk.rest_b.now c.walk.rest_c.now
          s.ensures.goes_on c.walk.invariant.a_same c.walk.invariant.b_same c.walk.invariant.c_same s.ensures.a_alike s.ensures.b_alike s.ensures.c_alike c.walk.invariant.agree here x (omega (arith, ints));
    })

pub returns-then-end-eq9223372036854775807 : goal.returns-then-end-eq9223372036854775807
returns-then-end-eq9223372036854775807 c =
    let s = c.common_stretch-in_a in
    let fits : FitsSigned w64 s.result.3 = search rules in
    let last : s.result.3 ≡ highest = omega (arith, ints) in
    let here : s.result.2 ≡ keeps c.args.rule s.result.0 s.result.1 = tests_same s.result.2 c.keeps-wanted.result _ c.if-in_c-wanted.false c.keeps-wanted.ensures in (
      λ _. agree_all c.args.rule s.result.0 s.result.1 s.result.2 (to_z w64 c.walk.at-bits) s.result.3 c.args.a.now c.args.b.now c.args.c.now c.walk.rest_a.now c.walk.rest_b.now c.walk.rest_c.now
          s.ensures.goes_on c.walk.invariant.a_same c.walk.invariant.b_same c.walk.invariant.c_same s.ensures.a_alike s.ensures.b_alike s.ensures.c_alike c.walk.invariant.agree here c.requires.a_in_order c.requires.b_in_order c.requires.c_in_order last,
      λ _. refl,
    )
