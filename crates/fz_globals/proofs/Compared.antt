-- What a comparison of two numbers says of the tests.
use Rattle.std.proofs.Common.{◌≡◌, ℤ, ◌<ℤ◌, ◌≤ℤ◌, int_le, Bool, true, false, refl, arith}
use Rattle.std.proofs.lemmas.Int.{ints}
use Rattle.std.proofs.lemmas.Bool.Decides.{Decides-int_eq}
use Rattle.std.proofs.lemmas.Grind.{common_steps}
use mathlib.Core.Bool.{beq}
use Rattle.fz_kernel.specs.of_meaning.Relations.{◌=ℤ◌, ◌=ᴮ◌}

pub is_equal : (a b : ℤ) → a ≡ b → (a =ℤ b) ≡ true
is_equal a b same = (Decides-int_eq a b).1 same

pub is_other : (a b : ℤ) → ¬ (a ≡ b) → (a =ℤ b) ≡ false
is_other a b other = elim (a =ℤ b) as (λ s. (a =ℤ b) ≡ s → s ≡ false) [ true ↦ λ e. absurd (other ((Decides-int_eq a b).0 e)) | false ↦ λ _. refl ] refl

pub above_is_other : (a b : ℤ) → a <ℤ b → (b =ℤ a) ≡ false
above_is_other a b h = is_other b a (λ same. omega (arith, ints))

pub at_most : (a b : ℤ) → int_le a b ≡ true → a ≤ℤ b
at_most a b e = grind (arith, ints)

pub same_truths : (a b : Bool) → beq a b ≡ (a =ᴮ b)
same_truths a b = grind (arith, common_steps)
