-- The elements of an array argument, read as values, are as many as its scalars.
use Rattle.std.proofs.Common.{◌≡◌, ℕ, length, sym, ◌∙◌}
use Rattle.std.proofs.lemmas.List.{length-map}
use Rattle.fz_kernel.specs.declared.elements.Elements.{Elements}
use Rattle.fz_kernel.specs.Given.{int_of, bool_of, set_of_slot}
use Rattle.fz_kernel.specs.Views.{slots_of, under, ints, bools, sets}

pub ints_counted : (e : Elements) (n : ℕ) → n ≡ length (slots_of e) → n ≡ length (ints e)
ints_counted e n counted = counted ∙ sym (length-map (slots_of e) (int_of (under e)))

pub bools_counted : (e : Elements) (n : ℕ) → n ≡ length (slots_of e) → n ≡ length (bools e)
bools_counted e n counted = counted ∙ sym (length-map (slots_of e) (bool_of (under e)))

pub sets_counted : (e : Elements) (n : ℕ) → n ≡ length (slots_of e) → n ≡ length (sets e)
sets_counted e n counted = counted ∙ sym (length-map (slots_of e) (set_of_slot (under e)))
