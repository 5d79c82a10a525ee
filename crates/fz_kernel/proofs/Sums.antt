-- The numbers that a row computes in 128 bits, as they are read: what has no number counts as 0,
-- changes no sum and leaves no power.
use Rattle.std.proofs.Common.{◌≡◌, ℕ, zero, suc, ◌^◌, ℤ, pos, negsuc, ◌+ℤ◌, ◌*ℤ◌, Bool, true, false, not, ◌&&◌, ◌||◌, List, [], ◌∷◌, map, Option, Some, None, option_and_then, option_map, int_lt, unsigned_abs, refl, sym, ap, subst, slice_get, ◌∙◌, pow-suc, mul-zero}
use Rattle.std.specs.Int.{int_pow}
use Rattle.std.proofs.Math.Nat.{pow-zero}
use Rattle.std.proofs.Math.IntN.{+ℤ_idr, *ℤ-zero, zero-*ℤ}
use Rattle.std.specs.List.{list_all, list_any}
use Rattle.std.specs.Option.{option_map_or}
use Rattle.fz_store.specs.of_meaning.of_base.declared.value.Value.{Value}
use Rattle.fz_store.specs.of_meaning.of_base.declared.value.Value.TheVariants.{Int, Bool as Truth, Set}
use Rattle.fz_store.specs.of_meaning.declared.kind.Kind.{Kind}
use Rattle.fz_store.specs.of_meaning.declared.kind.Kind.TheVariants.{Int as IntKind}
use Rattle.fz_store.specs.of_meaning.declared.term.Term.{Term}
use Rattle.fz_store.specs.of_meaning.declared.row.Wide.{Wide}
use Rattle.fz_store.specs.of_meaning.declared.row.Wide.TheVariants.{Products, Power}
use Rattle.fz_store.specs.of_meaning.Builtins.{Shape, with_bool}
use Rattle.fz_store.specs.of_meaning.Relations.{products}
use Rattle.fz_store.specs.of_meaning.States.{fits_128, sums_from, leaves, leaves_128, is_unknown, known_products, number_at_argument, number_of_value, power_leaves, product_before, terms_at_argument}
use Rattle.fz_store.specs.of_meaning.Builtins.Shape.{ScalarOf, ArrayOf}
use Rattle.fz_store.specs.of_meaning.Builtins.ArgValue.{OneValue}
use Rattle.fz_store.specs.of_meaning.Meaning.{Argument, Partial, value, as_int, number_at, has_shape, have_shapes}
use Rattle.fz_store.specs.of_meaning.Meaning.Argument.{One, ListOf}
use Rattle.fz_store.specs.of_meaning.Meaning.Place.{Scalar, Array}
use Rattle.fz_store.proofs.of_meaning.Values.{no, and_both, and_first, and_second}
use Rattle.fz_kernel.specs.Given.{int_at, int_in, ints_of, read_leaves, read_unknown, slots_at}
use Rattle.fz_kernel.proofs.Ready.{slots_are_terms}

-- the number of a value, or 0
abbrev or_zero : Option ℤ → ℤ
or_zero None = pos 0
or_zero (Some n) = n

number_is : (o : Option Value) → int_in o ≡ or_zero (option_and_then as_int o)
number_is None = refl
number_is (Some (Int n)) = refl
number_is (Some (Truth b)) = refl
number_is (Some (Set s)) = refl

-- the partial sums all have 128 bits
abbrev stay : ℤ → List ℤ → Bool
stay s ns = list_all fits_128 (sums_from s ns)

zero_first : (s : ℤ) (ns : List ℤ) → fits_128 s ≡ true → stay s (pos 0 ∷ ns) ≡ stay s ns
zero_first s ns f = ap (λ z. fits_128 z && stay z ns) (+ℤ_idr s) ∙ ap (λ b. b && stay s ns) f

one_more : (s : ℤ) (o p : Option ℤ) (ns ms : List ℤ) → fits_128 s ≡ true
    → ((z : ℤ) → fits_128 z ≡ true → stay z ns ≡ stay z ms)
    → stay s (product_before o p ns) ≡ stay s ((or_zero o *ℤ or_zero p) ∷ ms)
one_more s None p ns ms f same = same s f ∙ sym (zero_first s ms f) ∙ ap (λ z. stay s (z ∷ ms)) (sym (zero-*ℤ (or_zero p)))
one_more s (Some a) None ns ms f same = same s f ∙ sym (zero_first s ms f) ∙ ap (λ z. stay s (z ∷ ms)) (sym (*ℤ-zero a))
one_more s (Some a) (Some b) ns ms f same =
    elim (fits_128 (s +ℤ (a *ℤ b))) as (λ t. fits_128 (s +ℤ (a *ℤ b)) ≡ t → (t && stay (s +ℤ (a *ℤ b)) ns) ≡ (t && stay (s +ℤ (a *ℤ b)) ms)) [
      | true ↦ λ fits. same (s +ℤ (a *ℤ b)) fits
      | false ↦ λ _. refl
    ] refl

same_sums : (K : Partial) (s : ℤ) (ts us : List Term) → fits_128 s ≡ true
    → stay s (known_products K ts us)
    ≡ stay s (products (ints_of K (map Some ts)) (ints_of K (map Some us)))
same_sums K s [] us f = refl
same_sums K s (t ∷ ts) [] f = refl
same_sums K s (t ∷ ts) (u ∷ us) f =
    one_more s (number_at K t) (number_at K u) (known_products K ts us) (products (ints_of K (map Some ts)) (ints_of K (map Some us))) f (λ z g. same_sums K z ts us g)
    ∙ (λ i. stay s ((sym (number_is (value K t)) i *ℤ sym (number_is (value K u)) i) ∷ products (ints_of K (map Some ts)) (ints_of K (map Some us))))

-- an argument of the shape of an array has a slot for each term
pub slots_terms : (ss : List Shape) (xs : List Argument) (i : ℕ) (k : Kind)
    → have_shapes ss xs ≡ true → slice_get ss i ≡ Some (ArrayOf k)
    → slots_at xs i ≡ map Some (terms_at_argument xs i)
slots_terms [] xs i k h e = cc
slots_terms (s ∷ ss) [] i k h e = no h
slots_terms (s ∷ ss) (x ∷ xs) zero k h e = let same : s ≡ ArrayOf k = cc in slots_are_terms k x (subst (λ t. has_shape t x ≡ true) same (and_first (has_shape s x) _ h))
slots_terms (s ∷ ss) (x ∷ xs) (suc i) k h e = slots_terms ss xs i k (and_second (has_shape s x) _ h) e

-- an argument of the shape of a number is read as its number, or as 0
int_terms : (K : Partial) (ss : List Shape) (xs : List Argument) (i : ℕ) → have_shapes ss xs ≡ true
    → slice_get ss i ≡ Some (ScalarOf IntKind)
    → int_at K xs i ≡ or_zero (number_at_argument K xs i)
int_terms K [] xs i h e = cc
int_terms K (s ∷ ss) [] i h e = no h
int_terms K (s ∷ ss) (x ∷ xs) zero h e =
    let same : s ≡ ScalarOf IntKind = cc in
    here x (subst (λ t. has_shape t x ≡ true) same (and_first (has_shape s x) _ h))
  where
    here : (x : Argument) → has_shape (ScalarOf IntKind) x ≡ true
        → int_at K (x ∷ xs) zero ≡ or_zero (number_at_argument K (x ∷ xs) zero)
    here (One (Scalar k t)) h =
        elim (value K t) as (λ o. int_in o ≡ or_zero (option_and_then number_of_value (option_map OneValue o))) [
          | None ↦ refl
          | Some v ↦ number_is (Some v)
        ]
    here (One (Array name k ts)) h = no h
    here (ListOf ps) h = no h
int_terms K (s ∷ ss) (x ∷ xs) (suc i) h e = int_terms K ss xs i (and_second (has_shape s x) _ h) e

-- the indices are those of arrays of numbers, or of scalars that are numbers
abbrev pub is_ints : Option Shape → Bool
is_ints (Some (ArrayOf IntKind)) = true
is_ints _ = false

abbrev pub is_int : Option Shape → Bool
is_int (Some (ScalarOf IntKind)) = true
is_int _ = false

abbrev pub are_ints : List Shape → Wide → Bool
are_ints ss (Products i j) = is_ints (slice_get ss i) && is_ints (slice_get ss j)
are_ints ss (Power i j) = is_int (slice_get ss i) && is_int (slice_get ss j)

is_array : (o : Option Shape) → is_ints o ≡ true → o ≡ Some (ArrayOf IntKind)
is_array (Some (ArrayOf IntKind)) h = refl
is_array _ h = no h

is_scalar : (o : Option Shape) → is_int o ≡ true → o ≡ Some (ScalarOf IntKind)
is_scalar (Some (ScalarOf IntKind)) h = refl
is_scalar _ h = no h

-- the exponent is negative
abbrev below : Option ℤ → Bool
below o = option_map_or (λ b. int_lt b (pos 0)) o false

below_is : (o : Option ℤ) → below o ≡ int_lt (or_zero o) (pos 0)
below_is None = refl
below_is (Some b) = refl

-- no power of 0 leaves 128 bits
zero_fits : (n : ℕ) → fits_128 (int_pow (pos 0) n) ≡ true
zero_fits zero = refl
zero_fits (suc n) = ap (λ m. fits_128 (pos m)) (pow-suc 0 n ∙ mul-zero (0 ^ n))

power_is : (o p : Option ℤ)
    → power_leaves o p ≡ not (fits_128 (int_pow (or_zero o) (unsigned_abs (or_zero p))))
power_is o None = elim o as (λ o. power_leaves o None ≡ not (fits_128 (int_pow (or_zero o) 0))) [ None ↦ refl | Some a ↦ sym (ap not (one_fits a)) ]
  where
    one_fits : (a : ℤ) → fits_128 (int_pow a 0) ≡ true
    one_fits (pos a) = ap (λ m. fits_128 (pos m)) (pow-zero a)
    one_fits (negsuc a) = ap (λ m. fits_128 (pos m)) (pow-zero (suc a))
power_is None (Some b) = sym (ap not (zero_fits (unsigned_abs b)))
power_is (Some a) (Some b) = refl

-- what can't be computed, as it is defined and as it is read
module _ (K : Partial) (ss : List Shape) (xs : List Argument) (h : have_shapes ss xs ≡ true) where
  unknown_is : (w : Wide) → are_ints ss w ≡ true → is_unknown K xs w ≡ read_unknown K xs w
  unknown_is (Products i j) ints = refl
  unknown_is (Power i j) ints =
      let second = int_terms K ss xs j h (is_scalar (slice_get ss j) (and_second (is_int (slice_get ss i)) _ ints)) in
      below_is (number_at_argument K xs j) ∙ ap (λ b. int_lt b (pos 0)) (sym second)

  leaves_is : (w : Wide) → are_ints ss w ≡ true → leaves K xs w ≡ read_leaves K xs w
  leaves_is (Products i j) ints =
      let first = slots_terms ss xs i IntKind h (is_array (slice_get ss i) (and_first (is_ints (slice_get ss i)) _ ints)) in
      let second = slots_terms ss xs j IntKind h (is_array (slice_get ss j) (and_second (is_ints (slice_get ss i)) _ ints)) in
      ap not (same_sums K (pos 0) (terms_at_argument xs i) (terms_at_argument xs j) refl)
      ∙ (λ t. leaves_128 (products (ints_of K (sym first t)) (ints_of K (sym second t))))
  leaves_is (Power i j) ints =
      let first = int_terms K ss xs i h (is_scalar (slice_get ss i) (and_first (is_int (slice_get ss i)) _ ints)) in
      let second = int_terms K ss xs j h (is_scalar (slice_get ss j) (and_second (is_int (slice_get ss i)) _ ints)) in
      let power = power_is (number_at_argument K xs i) (number_at_argument K xs j) ∙ (λ t. not (fits_128 (int_pow (sym first t) (unsigned_abs (sym second t))))) in
      λ t. unknown_is (Power i j) ints t || power t

  pub leave_are : (ws : List Wide) → list_all (are_ints ss) ws ≡ true
      → list_any (leaves K xs) ws ≡ list_any (read_leaves K xs) ws
  leave_are [] ints = refl
  leave_are (w ∷ ws) ints =
      λ i. leaves_is w (and_first (are_ints ss w) _ ints) i || leave_are ws (and_second (are_ints ss w) _ ints) i

  pub unknown_are : (ws : List Wide) → list_all (are_ints ss) ws ≡ true
      → list_any (is_unknown K xs) ws ≡ list_any (read_unknown K xs) ws
  unknown_are [] ints = refl
  unknown_are (w ∷ ws) ints =
      λ i. unknown_is w (and_first (are_ints ss w) _ ints) i || unknown_are ws (and_second (are_ints ss w) _ ints) i

-- one more Boolean at the end changes nothing
still_there : (ss : List Shape) (i : ℕ) (s : Shape) → slice_get ss i ≡ Some s
    → slice_get (with_bool ss) i ≡ Some s
still_there [] i s h = cc
still_there (s ∷ ss) zero t h = h
still_there (s ∷ ss) (suc i) t h = still_there ss i t h

ints_with_bool : (ss : List Shape) (i : ℕ) → is_ints (slice_get ss i) ≡ true
    → is_ints (slice_get (with_bool ss) i) ≡ true
ints_with_bool ss i h = ap is_ints (still_there ss i (ArrayOf IntKind) (is_array (slice_get ss i) h))

int_with_bool : (ss : List Shape) (i : ℕ) → is_int (slice_get ss i) ≡ true
    → is_int (slice_get (with_bool ss) i) ≡ true
int_with_bool ss i h = ap is_int (still_there ss i (ScalarOf IntKind) (is_scalar (slice_get ss i) h))

number_with_bool : (ss : List Shape) (w : Wide) → are_ints ss w ≡ true
    → are_ints (with_bool ss) w ≡ true
number_with_bool ss (Products i j) h =
    and_both (is_ints (slice_get (with_bool ss) i)) _ (ints_with_bool ss i (and_first (is_ints (slice_get ss i)) _ h)) (ints_with_bool ss j (and_second (is_ints (slice_get ss i)) _ h))
number_with_bool ss (Power i j) h =
    and_both (is_int (slice_get (with_bool ss) i)) _ (int_with_bool ss i (and_first (is_int (slice_get ss i)) _ h)) (int_with_bool ss j (and_second (is_int (slice_get ss i)) _ h))

pub numbers_with_bool : (ss : List Shape) (ws : List Wide) → list_all (are_ints ss) ws ≡ true
    → list_all (are_ints (with_bool ss)) ws ≡ true
numbers_with_bool ss [] h = refl
numbers_with_bool ss (w ∷ ws) h =
    and_both (are_ints (with_bool ss) w) _ (number_with_bool ss w (and_first (are_ints ss w) _ h)) (numbers_with_bool ss ws (and_second (are_ints ss w) _ h))
