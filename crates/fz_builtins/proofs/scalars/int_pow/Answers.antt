use Rattle.std.proofs.Common.{rules, ◌≡◌, ℤ, pos, true, false, cond, not, ◌||◌, ◌&&◌, Some, refl, sym, ap, subst, ◌∙◌, int_le, int_lt, unsigned_abs, ℕ, FitsSigned, of_z, to_z, w64}
use Rattle.std.proofs.lemmas.Int.{to_z-of_z}
use Rattle.std.specs.Int.{int_pow}
use Rattle.fz_globals.specs.of_meaning.Builtins.{row_at}
use Rattle.fz_globals.specs.of_meaning.Relations.{◌=ℤ◌}
use Rattle.fz_globals.specs.of_meaning.Results.{result_of}
use Rattle.fz_globals.specs.of_meaning.States.{fits_128}
use Rattle.fz_globals.specs.of_kernel.Given.{int_at}
use Rattle.fz_globals.specs.of_kernel.Views.{arguments_of, assigned}
use Rattle.fz_builtins.specs.declared.outcome.Outcome.TheVariants.{Truth, TooLarge, Unknown}
use Rattle.fz_builtins.specs.Outcomes.{row_outcome}
use Rattle.fz_builtins.proofs.RowTests.{number_is}
use Rattle.fz_builtins.proofs.scalars.int_pow.Goals as goal

pub returns-then-exponent-lt0 : goal.returns-then-exponent-lt0
unfolding row_outcome row_at
returns-then-exponent-lt0 c =
    let K = assigned c.args.view.now in
    let xs = arguments_of c.args.view.now in
    let a = int_at K xs 0 in
    let b = int_at K xs 1 in
    let negative : int_lt b (pos 0) ≡ true = subst (λ z. int_lt z (pos 0) ≡ true) c.int-exponent.ensures.read (search rules) in
    let power = int_pow a (unsigned_abs b) in
    (λ i. cond ((sym negative i || not (fits_128 power)) || false) (cond (sym negative i || false) Unknown TooLarge) (Truth (int_le (pos 0) b && (int_at K xs 2 =ℤ power))), tt)

-- the power of two numbers as the code passes them
passed_power : (x y a b : ℤ) (m : ℕ) → FitsSigned w64 x → FitsSigned w64 y → x ≡ a → y ≡ b
    → m ≡ unsigned_abs (to_z w64 (of_z w64 y))
    → int_pow (to_z w64 (of_z w64 x)) m ≡ int_pow a (unsigned_abs b)
passed_power x y a b m fits also base exponent is =
    let abs = is ∙ ap unsigned_abs (to_z-of_z w64 y also ∙ exponent) in
    λ i. int_pow ((to_z-of_z w64 x fits ∙ base) i) (abs i)

pub returns-in-Some : goal.returns-in-Some
unfolding row_outcome row_at result_of
returns-in-Some c =
    let a = int_at (assigned c.args.view.now) (arguments_of c.args.view.now) 0 in
    let b = int_at (assigned c.args.view.now) (arguments_of c.args.view.now) 1 in
    let negative : int_lt b (pos 0) ≡ false = subst (λ z. int_lt z (pos 0) ≡ false) c.int-exponent.ensures.read (search rules) in
    let natural : int_le (pos 0) b ≡ true = subst (λ z. int_le (pos 0) z ≡ true) c.int-exponent.ensures.read (search rules) in
    let passed = passed_power c.int.result c.int-exponent.result a b c.unsigned_abs.result (search rules) (search rules) c.int.ensures.read c.int-exponent.ensures.read c.unsigned_abs.ensures.value in
    let is : c.in-Some.power ≡ int_pow a (unsigned_abs b) = c.in-Some.ensures.exact ∙ passed in
    let fit : fits_128 (int_pow a (unsigned_abs b)) ≡ true = subst (λ z. fits_128 z ≡ true) is c.in-Some.ensures.fits in
    ((refl, refl, λ i. (negative i || not (fit i)) || false), λ v. (λ i. natural i && (v =ℤ int_pow a (unsigned_abs b))) ∙ number_is is (search rules) v)

pub returns-in-None : goal.returns-in-None
unfolding row_outcome row_at
returns-in-None c =
    let K = assigned c.args.view.now in
    let xs = arguments_of c.args.view.now in
    let a = int_at K xs 0 in
    let b = int_at K xs 1 in
    let negative : int_lt b (pos 0) ≡ false = subst (λ z. int_lt z (pos 0) ≡ false) c.int-exponent.ensures.read (search rules) in
    let passed = passed_power c.int.result c.int-exponent.result a b c.unsigned_abs.result (search rules) (search rules) c.int.ensures.read c.int-exponent.ensures.read c.unsigned_abs.ensures.value in
    let leaves : fits_128 (int_pow a (unsigned_abs b)) ≡ false = subst (λ z. fits_128 z ≡ false) passed c.in-None.ensures.leaves in
    (λ i. cond ((sym negative i || not (sym leaves i)) || false) (cond (sym negative i || false) Unknown TooLarge) (Truth (int_le (pos 0) b && (int_at K xs 2 =ℤ int_pow a (unsigned_abs b)))), tt)
