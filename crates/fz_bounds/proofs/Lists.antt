-- Lists between others.
use Rattle.std.proofs.Common.{◌≡◌, ℕ, zero, suc, ◌+◌, ◌<◌, ℤ, ◌≤ℤ◌, Bool, true, false, List, [], ◌∷◌, drop, length, Some, slice_get, refl, sym, subst, subst₂, ◌∙◌, arith, int_le}
use Rattle.std.proofs.lemmas.Int.{ints as numerals}
use Rattle.std.proofs.lemmas.List.{length-map}
use Rattle.std.proofs.lemmas.Option.{none-some, same_Some, slice_get_within}
use Rattle.fz_model.specs.declared.Kind.{Kind}
use Rattle.fz_model.specs.declared.Kind.TheVariants.{Int as IntKind, Bool as BoolKind}
use Rattle.fz_model.specs.Builtins.{Plain}
use Rattle.fz_model.specs.Meaning.{Argument, Partial}
use Rattle.fz_model.proofs.Lists.{there_is}
use Rattle.fz_model.specs.Relations.{as_number}
use Rattle.fz_model.specs.of_builtins.of_kernel.Given.{bool_of, bools_at, int_of, ints_at, slots_at}
use Rattle.fz_bounds.specs.Between.{AreAtMost, at_most}
use Rattle.fz_bounds.specs.Within.{numbers_at}

pub each_at_most : (k : Kind) (as' bs : List (Plain k)) (i : ℕ) (a b : Plain k)
    → AreAtMost k as' bs → slice_get as' i ≡ Some a → slice_get bs i ≡ Some b
    → at_most k a b ≡ true
each_at_most k [] bs i a b h d e = cc
each_at_most k (x ∷ as') [] i a b h d e = absurd h
each_at_most k (x ∷ as') (y ∷ bs) zero a b h d e =
    subst₂ (λ v w. at_most k v w ≡ true) (same_Some x a d) (same_Some y b e) h.0
each_at_most k (x ∷ as') (y ∷ bs) (suc i) a b h d e = each_at_most k as' bs i a b h.1 d e

pub ints_in_order : (as' bs : List ℤ) (i : ℕ) (a b : ℤ) → AreAtMost IntKind as' bs
    → slice_get as' i ≡ Some a → slice_get bs i ≡ Some b → int_le a b ≡ true
ints_in_order as' bs i a b h d e = each_at_most IntKind as' bs i a b h d e

pub truths_in_order : (as' bs : List Bool) (i : ℕ) (a b : Bool) → AreAtMost BoolKind as' bs
    → slice_get as' i ≡ Some a → slice_get bs i ≡ Some b → at_most BoolKind a b ≡ true
truths_in_order as' bs i a b h d e = each_at_most BoolKind as' bs i a b h d e

pub first_at_most : (a b n : ℤ) → a ≡ b → int_le b n ≡ true → a ≤ℤ n
first_at_most a b n e h = grind (arith, numerals)

pub last_at_least : (a b n : ℤ) → a ≡ b → int_le n b ≡ true → n ≤ℤ a
last_at_least a b n e h = grind (arith, numerals)

pub only_between : (l h n : ℤ) → int_le h l ≡ true → int_le l n ≡ true → int_le n h ≡ true → n ≡ l
only_between l h n e f g = grind (arith, numerals)

-- an element of each assignment's list, where the list has so many
pub is_there : (K : Partial) (xs : List Argument) (i p : ℕ) → p < length (slots_at xs i)
    → (n : ℤ) × (slice_get (ints_at K xs i) p ≡ Some n)
is_there K xs i p h =
    let as_many : length (ints_at K xs i) ≡ length (slots_at xs i) = length-map (slots_at xs i) (int_of K) in
    there_is (ints_at K xs i) p (omega arith)

pub truth_there : (K : Partial) (xs : List Argument) (i p : ℕ) → p < length (slots_at xs i)
    → (b : Bool) × (slice_get (bools_at K xs i) p ≡ Some b)
truth_there K xs i p h =
    let as_many : length (bools_at K xs i) ≡ length (slots_at xs i) = length-map (slots_at xs i) (bool_of K) in
    there_is (bools_at K xs i) p (omega arith)

pub is_within : (K : Partial) (xs : List Argument) (i p : ℕ) (n : ℤ)
    → slice_get (ints_at K xs i) p ≡ Some n → p < length (slots_at xs i)
is_within K xs i p n at =
    let as_many : length (ints_at K xs i) ≡ length (slots_at xs i) = length-map (slots_at xs i) (int_of K) in
    let within = slice_get_within (ints_at K xs i) p n at in
    omega arith

pub truth_within : (K : Partial) (xs : List Argument) (i p : ℕ) (b : Bool)
    → slice_get (bools_at K xs i) p ≡ Some b → p < length (slots_at xs i)
truth_within K xs i p b at =
    let as_many : length (bools_at K xs i) ≡ length (slots_at xs i) = length-map (slots_at xs i) (bool_of K) in
    let within = slice_get_within (bools_at K xs i) p b at in
    omega arith

pub numbers_counted : (K : Partial) (xs : List Argument) (i n : ℕ) → n ≡ length (slots_at xs i)
    → n ≡ length (ints_at K xs i)
numbers_counted K xs i n counted = counted ∙ sym (length-map (slots_at xs i) (int_of K))

pub truths_counted : (K : Partial) (xs : List Argument) (i n : ℕ) → n ≡ length (slots_at xs i)
    → n ≡ length (bools_at K xs i)
truths_counted K xs i n counted = counted ∙ sym (length-map (slots_at xs i) (bool_of K))

-- the same of elements as numbers
pub elements_counted : (t : Bool) (K : Partial) (xs : List Argument) (i n : ℕ)
    → n ≡ length (slots_at xs i) → n ≡ length (numbers_at t K xs i)
elements_counted true K xs i n counted =
    truths_counted K xs i n counted ∙ sym (length-map (bools_at K xs i) as_number)
elements_counted false K xs i n counted = numbers_counted K xs i n counted

pub element_there : (t : Bool) (K : Partial) (xs : List Argument) (i p : ℕ)
    → p < length (slots_at xs i) → (n : ℤ) × (slice_get (numbers_at t K xs i) p ≡ Some n)
element_there t K xs i p h =
    let counted = elements_counted t K xs i (length (slots_at xs i)) refl in
    there_is (numbers_at t K xs i) p (omega arith)

pub dropped_at : {A : Type 0} (xs : List A) (s p : ℕ) (x : A) → slice_get xs (s + p) ≡ Some x
    → slice_get (drop s xs) p ≡ Some x
dropped_at xs zero p x at =
    let same : 0 + p ≡ p = omega arith in
    subst (λ k. slice_get xs k ≡ Some x) same at
dropped_at [] (suc s) p x at = absurd (none-some x at)
dropped_at (y ∷ xs) (suc s) p x at =
    let next : suc s + p ≡ suc (s + p) = omega arith in
    dropped_at xs s p x (subst (λ k. slice_get (y ∷ xs) k ≡ Some x) next at)
