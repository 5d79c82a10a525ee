use Rattle.std.proofs.Common.{◌≡◌, ◌≤ℤ◌, pos, ◌-ℤ◌, FitsSigned, w64, ◌∙◌, arith, rules}
use Rattle.std.proofs.lemmas.Int.{ints, to_z-of_z}
use Rattle.std.specs.Int.{int_max, int_min}
use Rattle.fz_base.specs.Ranges.{is_between}
use Rattle.fz_base.proofs.Words.{has_cut, between_cut}
use Rattle.fz_base.proofs.bits.cut.Goals as goal

pub returns : goal.returns
returns c =
    let first = c.max-first.result in
    let last = c.min-last.result in
    let fits_first : FitsSigned w64 first = search rules in
    let fits_last : FitsSigned w64 last = search rules in
    let fits_lo : FitsSigned w64 c.args.lo = c.ranges.lo in
    let fits_hi : FitsSigned w64 c.args.hi = c.ranges.hi in
    let first_is : first ≡ int_max c.args.lo (pos 0) = simp to_z-of_z at c.max-first.ensures.value in
    let last_is : last ≡ int_min c.args.hi (pos 63) = simp to_z-of_z at c.min-last.ensures.value in
    let low : pos 0 ≤ℤ first = c.max-first.ensures.other_bound in
    let high : last ≤ℤ pos 63 = c.min-last.ensures.other_bound in
    let some : first ≤ℤ last = grind (arith, ints) in
    let fits_rest : FitsSigned w64 (pos 63 -ℤ last) = omega (arith, ints) in
    simp to_z-of_z (λ x. has_cut first last x low high some ∙ (λ i. is_between (first_is i) (last_is i) x) ∙ between_cut c.args.lo c.args.hi x)
