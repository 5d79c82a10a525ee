use Rattle.std.proofs.Common.{◌≡◌, refl, sym, ap, ◌∙◌, w64, arith, rules}
use Rattle.std.proofs.lemmas.Int.{to_z-of_z}
use Rattle.std.proofs.lemmas.Bool.{true≢false}
use Rattle.std.proofs.lemmas.Nat.Bits.{bit_at-trailing_zeros}
use Rattle.std.specs.Int.{trailing_zeros}
use Rattle.fz_base.specs.Bits.{has_bit}
use Rattle.fz_base.proofs.Words.{has_none, one_word, word_of_one}
use Rattle.fz_base.proofs.bits.only.Goals as goal

pub returns-then-bits-eq0-clause-none : goal.returns-then-bits-eq0-clause-none
returns-then-bits-eq0-clause-none c =
    let none : c.args.bits ≡ 0 = omega arith in
    λ n only. true≢false (sym ((only n).1 refl) ∙ ap (λ w. has_bit w n) none ∙ has_none n)

pub returns-then-bits-lowest-clause-found : goal.returns-then-bits-lowest-clause-found
returns-then-bits-lowest-clause-found c = search (rules, bit_at-trailing_zeros, to_z-of_z, one_word)

pub returns-else-bits-lowest-clause-none : goal.returns-else-bits-lowest-clause-none
returns-else-bits-lowest-clause-none c =
    let at = bit_at-trailing_zeros w64 c.args.bits (omega arith) c.ranges.bits.fits in
    λ n only. c.if-bits-lowest.false (word_of_one c.args.bits (trailing_zeros w64 c.args.bits) n at.0 c.ranges.bits.fits at.1 only)
