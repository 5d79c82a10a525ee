use Rattle.std.proofs.Common.{◌≡◌, ◌≤◌, ◌<◌, ◌+◌, ℤ, pos, ◌-ℤ◌, true, ◌||◌, length, FitsSigned, w64, ap, ◌∙◌, arith, rules}
use Rattle.std.proofs.lemmas.Int.{ints, to_z-of_z}
use Rattle.std.proofs.lemmas.Nat.Bits.{bit_at-trailing_zeros}
use Rattle.std.specs.Int.{trailing_zeros}
use Rattle.std.specs.Ordering.{int_eq}
use Rattle.fz_base.specs.Bits.{has_bit}
use Rattle.fz_base.specs.Ranges.{EndUpTo, covers}
use Rattle.fz_base.proofs.Covers.{ends_further}
use Rattle.fz_base.proofs.Words.{in_rest, spread_more, part_less, above_lowest, rest_less}
use Rattle.fz_base.proofs.bits.spread.Goals as goal

pub push_number-requires-clause-room : goal.push_number-requires-clause-room
push_number-requires-clause-room c =
    let rest = c.spreading.rest in
    let at = bit_at-trailing_zeros w64 rest (omega arith) c.spreading.auto.rest-fits.fits in
    let few = c.spreading.invariant.few (trailing_zeros w64 rest) (in_rest c.args.bits rest (trailing_zeros w64 rest) at.0 at.1 at.2 c.spreading.invariant.part) in
    omega (arith, at.0)

pub push_number-requires-clause-below : goal.push_number-requires-clause-below
push_number-requires-clause-below c =
    let rest = c.spreading.rest in
    let t = trailing_zeros w64 rest in
    let at = bit_at-trailing_zeros w64 rest (omega arith) c.spreading.auto.rest-fits.fits in
    let fits : FitsSigned w64 c.from.result = search rules in
    let ends = c.spreading.invariant.ends t (in_rest c.args.bits rest t at.0 at.1 at.2 c.spreading.invariant.part) in
    simp to_z-of_z (rw c.from.ensures (ends_further (pos t -ℤ pos 1) (pos t) c.spreading.ranges.items (omega (arith, ints)) ends))

pub spreading-smaller : goal.spreading-smaller
spreading-smaller c =
    let rest = c.spreading.rest in
    let at = bit_at-trailing_zeros w64 rest (omega arith) c.spreading.auto.rest-fits.fits in
    rest_less c.args.bits rest (trailing_zeros w64 rest) at.0 at.1 at.2 c.spreading.invariant.part c.spreading.auto.rest-fits.fits

pub spreading-preserved : goal.spreading-preserved
spreading-preserved c =
    let rest = c.spreading.rest in
    let t = trailing_zeros w64 rest in
    let at = bit_at-trailing_zeros w64 rest (omega arith) c.spreading.auto.rest-fits.fits in
    let part = c.spreading.invariant.part in
    let here : has_bit rest (pos t) ≡ true = in_rest c.args.bits rest t at.0 at.1 at.2 part in
    let few : length c.spreading.ranges.items ≤ t = c.spreading.invariant.few t here in
    let fits : FitsSigned w64 c.from.result = search rules in
    let new = c.push_number.new.ranges.items in
    let ends : EndUpTo (pos t) new = rw c.from.ensures at (simp to_z-of_z at c.push_number.ensures.ends) in
    let added : (x : ℤ) → covers new x ≡ (covers c.spreading.ranges.items x || int_eq x (pos t)) = rw c.from.ensures at (simp to_z-of_z at c.push_number.ensures.added) in
    let more : length new ≤ t + 1 = omega (arith, c.push_number.ensures.len) in
    record {
      part = part_less c.args.bits rest t at.0 at.1 at.2 part;
      in_order = c.push_number.ensures.in_order;
      ends = λ k e. let above : t < k = above_lowest c.args.bits rest t at.0 at.1 at.2 part k e in ends_further (pos t) (pos k -ℤ pos 1) new (omega (arith, ints)) ends;
      few = λ k e. let above : t < k = above_lowest c.args.bits rest t at.0 at.1 at.2 part k e in omega arith;
      same = λ x. added x ∙ ap (λ b. b || int_eq x (pos t)) (c.spreading.invariant.same x) ∙ spread_more c.args.bits rest t at.0 at.1 at.2 part x;
    }
