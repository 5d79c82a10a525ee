-- For a printer: what `{}` writes of an integer is a text of it.
use Rattle.std.proofs.Common.{◌≡◌, ℕ, suc, ◌*◌, ◌+◌, ◌^◌, ◌<◌, List, [], ◌∷◌, ℤ, pos, negsuc, true, refl, sym, ◌∙◌, arith}
use Rattle.std.specs.Prelude.{decimal, fold}
use Rattle.std.specs.List.{list_all}
use Rattle.std.specs.Char.{is_digit, digit_value}
use Rattle.std.specs.Fmt.{signed_decimal}
use Rattle.std.specs.Str.Parse.{AllDigits, digits_value_after}
use Rattle.std.proofs.lemmas.Fmt.{decimal_is_IsNumeral}
use Rattle.std.proofs.lemmas.Bool.{and_from}
use Rattle.std.proofs.lemmas.Bool.Decides.{nat_tests}
use Rattle.std.proofs.lemmas.Int.{ints}
use Rattle.fz_tree.specs.Token.{WritesNatural, decimal as decimal_digits, WritesWhole, unsigned, negative}
use Rattle.fz_tree.specs.Lexing.{IsWithinLimit}

digit_passes : (b : ℕ) → digit_value b < 10 → is_digit b 10 ≡ true
digit_passes b h = grind (arith, nat_tests)

digits_pass : (ds : List ℕ) → AllDigits 10 ds → list_all (λ b. is_digit b 10) ds ≡ true
digits_pass [] h = refl
digits_pass (d ∷ ds) h = and_from (is_digit d 10) (list_all (λ b. is_digit b 10) ds) (digit_passes d h.0) (digits_pass ds h.1)

value_folds : (n : ℕ) (ds : List ℕ)
    → digits_value_after 10 n ds ≡ fold (λ m b. m * 10 + digit_value b) n ds
value_folds n [] = refl
value_folds n (d ∷ ds) = value_folds (n * 10 + digit_value d) ds

pub decimal_writes : (n : ℕ) → n < 2 ^ 64 → WritesNatural (decimal n) n
decimal_writes n h =
    let numeral = decimal_is_IsNumeral n h in
    decimal_digits (numeral.0.0, digits_pass (decimal n) numeral.0.1) (sym numeral.1 ∙ value_folds 0 (decimal n))

pub signed_decimal_writes : (z : ℤ) → IsWithinLimit z → WritesWhole (signed_decimal z) z
signed_decimal_writes (pos n) h = unsigned n (decimal_writes n (omega (arith, ints, h.1))) refl
signed_decimal_writes (negsuc n) h = negative (decimal (suc n)) (suc n) refl (decimal_writes (suc n) (omega (arith, ints, h.0))) refl
