-- The arguments of a constraint lie between those that bounds give.
use Rattle.std.proofs.Common.{◌≡◌, ℕ, suc, Bool, true, false, List, [], ◌∷◌, Option, Some, None, refl, subst, map, IfSome, IsSomeAnd, IsTrue}
use Rattle.std.specs.List.{list_all}
use Rattle.std.specs.Option.{option_map_or}
use Rattle.fz_model.specs.of_base.declared.value.Value.{Value}
use Rattle.fz_model.specs.of_base.declared.value.Value.TheVariants.{Int, Bool as Truth, Set}
use Rattle.fz_model.specs.declared.Kind.{Kind}
use Rattle.fz_model.specs.declared.Kind.TheVariants.{Int as IntKind, Bool as BoolKind, Set as SetKind}
use Rattle.fz_model.specs.declared.Term.{Term}
use Rattle.fz_model.specs.declared.Term.TheVariants.{Var, Fixed}
use Rattle.fz_model.specs.Relations.{kind_of, same_kind}
use Rattle.fz_model.specs.Builtins.{Plain, Shape}
use Rattle.fz_model.specs.Builtins.Shape.{ScalarOf, ArrayOf}
use Rattle.fz_model.specs.Meaning.{Argument, Partial, value_at}
use Rattle.fz_model.proofs.Values.{no, and_first, and_second}
use Rattle.fz_model.specs.of_builtins.of_kernel.Given.{are_read, argument_is_read, bool_in, int_in, is_read, set_in, slot_in, slots_in, value_of}
use Rattle.fz_model.specs.of_builtins.Outcomes.{argument_at}
use Rattle.fz_bounds.specs.Bounds.{Ranges, is_at_most}
use Rattle.fz_bounds.specs.Between.{AreAtMost, AreBelow, AreBetween, IsAtMost, at_most}
use Rattle.fz_bounds.specs.Opened.{IsAmid}
use Rattle.fz_bounds.proofs.Inside.{at_most_itself}

-- ---- one scalar

-- a value is at most the other, where there are both
abbrev LeadsTo : Option Value → Option Value → Type 0
LeadsTo o p = (v w : Value) → o ≡ Some v → p ≡ Some w → is_at_most v w ≡ true

abbrev IsUnder : Partial → Partial → Type 0
IsUnder K L = (n : ℕ) → LeadsTo (value_at K n) (value_at L n)

abbrev read_as : (k : Kind) → Option Value → Plain k
read_as IntKind o = int_in o
read_as BoolKind o = bool_in o
read_as SetKind o = set_in o

abbrev has_kind : Kind → Option Value → Bool
has_kind k o = option_map_or (λ v. same_kind (kind_of v) k) o false

values_read : (k : Kind) (o p : Option Value) → LeadsTo o p → has_kind k o ≡ true
    → has_kind k p ≡ true → at_most k (read_as k o) (read_as k p) ≡ true
values_read IntKind (Some (Int a)) (Some (Int b)) h f g = h (Int a) (Int b) refl refl
values_read IntKind (Some (Int a)) p h f g = no g
values_read IntKind o p h f g = no f
values_read BoolKind (Some (Truth a)) (Some (Truth b)) h f g = h (Truth a) (Truth b) refl refl
values_read BoolKind (Some (Truth a)) p h f g = no g
values_read BoolKind o p h f g = no f
values_read SetKind (Some (Set a)) (Some (Set b)) h f g = h (Set a) (Set b) refl refl
values_read SetKind (Some (Set a)) p h f g = no g
values_read SetKind o p h f g = no f

module _ (K L : Partial) (under : IsUnder K L) where
  slot_leads : (s : Option Term) → LeadsTo (value_of K s) (value_of L s)
  slot_leads None v w d e = cc
  slot_leads (Some (Var n)) v w d e = under n v w d e
  slot_leads (Some (Fixed u)) v w d e =
      let one : u ≡ v = cc in
      let other : u ≡ w = cc in
      subst (λ z. is_at_most v z ≡ true) other (subst (λ z. is_at_most z u ≡ true) one (at_most_itself u))

  slot_read : (k : Kind) (s : Option Term) → is_read K k s ≡ true → is_read L k s ≡ true
      → at_most k (read_as k (value_of K s)) (read_as k (value_of L s)) ≡ true
  slot_read k s f g = values_read k (value_of K s) (value_of L s) (slot_leads s) f g

  slots_read : (k : Kind) (ss : List (Option Term)) → list_all (is_read K k) ss ≡ true
      → list_all (is_read L k) ss ≡ true
      → AreAtMost k (map (λ s. read_as k (value_of K s)) ss) (map (λ s. read_as k (value_of L s)) ss)
  slots_read k [] f g = tt
  slots_read k (s ∷ ss) f g =
      (slot_read k s (and_first (is_read K k s) _ f) (and_first (is_read L k s) _ g), slots_read k ss (and_second (is_read K k s) _ f) (and_second (is_read L k s) _ g))

  -- ---- one argument, the first of several

  argument_read : (s : Shape) (x : Argument) (xs : List Argument) → argument_is_read K s x ≡ true
      → argument_is_read L s x ≡ true
      → IsAtMost s (argument_at K (x ∷ xs) 0 s) (argument_at L (x ∷ xs) 0 s)
  argument_read (ScalarOf IntKind) x xs f g = slot_read IntKind (slot_in x) f g
  argument_read (ScalarOf BoolKind) x xs f g = slot_read BoolKind (slot_in x) f g
  argument_read (ScalarOf SetKind) x xs f g = slot_read SetKind (slot_in x) f g
  argument_read (ArrayOf IntKind) x xs f g = slots_read IntKind (slots_in x) f g
  argument_read (ArrayOf BoolKind) x xs f g = slots_read BoolKind (slots_in x) f g
  argument_read (ArrayOf SetKind) x xs f g = slots_read SetKind (slots_in x) f g

  argument_later : (s : Shape) (x : Argument) (xs : List Argument) (i : ℕ)
      → IsAtMost s (argument_at K xs i s) (argument_at L xs i s)
      → IsAtMost s (argument_at K (x ∷ xs) (suc i) s) (argument_at L (x ∷ xs) (suc i) s)
  argument_later (ScalarOf IntKind) x xs i h = h
  argument_later (ScalarOf BoolKind) x xs i h = h
  argument_later (ScalarOf SetKind) x xs i h = h
  argument_later (ArrayOf IntKind) x xs i h = h
  argument_later (ArrayOf BoolKind) x xs i h = h
  argument_later (ArrayOf SetKind) x xs i h = h

  arguments_later : (ss : List Shape) (x : Argument) (xs : List Argument) (i : ℕ)
      → AreBelow i K L xs ss → AreBelow (suc i) K L (x ∷ xs) ss
  arguments_later [] x xs i h = tt
  arguments_later (s ∷ ss) x xs i h =
      (argument_later s x xs i h.0, arguments_later ss x xs (suc i) h.1)

  pub are_below : (ss : List Shape) (xs : List Argument) → are_read K ss xs ≡ true
      → are_read L ss xs ≡ true → AreBelow 0 K L xs ss
  are_below [] xs f g = tt
  are_below (s ∷ ss) [] f g = no f
  are_below (s ∷ ss) (x ∷ xs) f g =
      (argument_read s x xs (and_first (argument_is_read K s x) _ f) (and_first (argument_is_read L s x) _ g), arguments_later ss x xs 0 (are_below ss xs (and_second (argument_is_read K s x) _ f) (and_second (argument_is_read L s x) _ g)))

-- ---- inside bounds

lowest_leads : (o q : Option Value) → IfSome o (λ v. IsSomeAnd q (λ w. IsTrue (is_at_most v w)))
    → LeadsTo o q
lowest_leads (Some u) (Some x) h v w d e =
    let one : u ≡ v = cc in
    let other : x ≡ w = cc in
    subst (λ z. is_at_most v z ≡ true) other (subst (λ z. is_at_most z x ≡ true) one h)
lowest_leads o None h v w d e = cc
lowest_leads None q h v w d e = cc

highest_leads : (o q : Option Value) → IfSome o (λ v. IsSomeAnd q (λ w. IsTrue (is_at_most w v)))
    → LeadsTo q o
highest_leads (Some u) (Some x) h v w d e =
    let one : x ≡ v = cc in
    let other : u ≡ w = cc in
    subst (λ z. is_at_most v z ≡ true) other (subst (λ z. is_at_most z u ≡ true) one h)
highest_leads o None h v w d e = cc
highest_leads None q h v w d e = cc

pub are_amid : (B : Ranges) (K : Partial) (ss : List Shape) (xs : List Argument)
    → IsAmid B K → are_read B.lowest ss xs ≡ true → are_read K ss xs ≡ true
    → are_read B.highest ss xs ≡ true → AreBetween B.lowest K B.highest xs ss
are_amid B K ss xs amid l a h = record {
  low = are_below B.lowest K (λ n. lowest_leads (value_at B.lowest n) (value_at K n) (amid n).0) ss xs l a;
  high = are_below K B.highest (λ n. highest_leads (value_at B.highest n) (value_at K n) (amid n).1) ss xs a h;
}
