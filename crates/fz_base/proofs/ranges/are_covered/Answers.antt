use Rattle.std.proofs.Common.{◌≡◌, pos, ◌-◌, FitsSigned, w64, List, length, get_or, drop, take, length-drop, arith}
use Rattle.std.proofs.lemmas.Bool.{false≢true}
use Rattle.std.proofs.lemmas.Int.{to_z-of_z}
use Rattle.std.proofs.lemmas.List.{take_all}
use Rattle.std.proofs.lemmas.Grind.{common_steps}
use Rattle.fz_base.specs.declared.ranges.Range.{Range}
use Rattle.fz_base.proofs.Covers.{nowhere}
use Rattle.fz_base.proofs.Within.{order_past, lies_in_more, lies_not_in, first_low_fits, first_high_fits}
use Rattle.fz_base.proofs.ranges.are_covered.Goals as goal

pub returns-then-not-have_all : goal.returns-then-not-have_all
returns-then-not-have_all c = grind (arith, common_steps, get_or, first_low_fits, first_high_fits, to_z-of_z, false≢true, lies_not_in)

pub covering-preserved : goal.covering-preserved
covering-preserved c =
    let rest : List Range = c.covering.rest_a.now in
    let some = c.in-len1-up.len_at_least in
    let order = c.covering.invariant.a_in_order in
    let low : FitsSigned w64 (get_or rest 0 nowhere).lo = first_low_fits rest nowhere some order in
    let high : FitsSigned w64 (get_or rest 0 nowhere).hi = first_high_fits rest nowhere some order in
    let all = simp to_z-of_z at (c.have_all.ensures.all c.if-not-have_all.false) in
    let alike = simp to_z-of_z at c.reaching-rest_b.ensures.alike in
    let both = lies_in_more c.covering.rest_b.now c.reaching-rest_b.result.now rest nowhere some order alike all in
    let whole : take (length rest - 1) (drop 1 rest) ≡ drop 1 rest = take_all (length rest - 1) (drop 1 rest) (omega (arith, length-drop 1 rest)) in
    rw whole (record {
      a_in_order = order_past (pos 0) rest nowhere some order;
      b_in_order = c.reaching-rest_b.ensures.in_order;
      same = (λ h. c.covering.invariant.same.0 (both.0 h), λ h. both.1 (c.covering.invariant.same.1 h));
    })
