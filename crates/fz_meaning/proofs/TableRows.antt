-- How lists of values are read, and what a reified form says of them.
use Rattle.std.proofs.Common.{◌≡◌, ℤ, Bool, false, not, ◌||◌, List, [], ◌∷◌, ◌++◌, map, Some, None, refl, ap}
use Rattle.std.specs.Prelude.{⊤, IsSome}
use Rattle.std.specs.Option.{option_map_or}
use Rattle.fz_base.specs.Sets.{NumberSet}
use Rattle.fz_base.specs.declared.value.Value.{Value}
use Rattle.fz_base.specs.declared.value.Value.TheVariants.{Int, Bool as Truth, Set}
use Rattle.fz_meaning.specs.declared.kind.Kind.TheVariants.{Int as IntKind, Bool as BoolKind, Set as SetKind}
use Rattle.fz_meaning.specs.Relations.{◌=ℤ◌, ◌=ᴮ◌, option_cons, total, products}
use Rattle.fz_meaning.specs.Builtins.{ArgValue, Shape, Row, Test, implied, reified, row_at, read, plain_list, passes, with_bool, with_truth}
use Rattle.fz_meaning.specs.Builtins.ArgValue.{OneValue, ManyValues}
use Rattle.fz_meaning.specs.Meaning.{row_holds}
use Rattle.fz_meaning.specs.declared.builtin.Builtin.TheVariants.{IntLinEq}

-- ---- lists of values as lists of their numbers, Booleans and sets

pub plain_ints : (ns : List ℤ) → plain_list IntKind (map Int ns) ≡ Some ns
plain_ints [] = refl
plain_ints (n ∷ ns) = ap (option_cons (Some n)) (plain_ints ns)

pub plain_bools : (ts : List Bool) → plain_list BoolKind (map Truth ts) ≡ Some ts
plain_bools [] = refl
plain_bools (t ∷ ts) = ap (option_cons (Some t)) (plain_bools ts)

pub plain_sets : (ss : List NumberSet) → plain_list SetKind (map Set ss) ≡ Some ss
plain_sets [] = refl
plain_sets (s ∷ ss) = ap (option_cons (Some s)) (plain_sets ss)

-- ---- a sum, whose arrays are given as lists of values with what they are read as

pub int_lin_eq_holds : (us : List Value) (a : List ℤ) (vs : List Value) (b : List ℤ) (c : ℤ)
    → plain_list IntKind us ≡ Some a → plain_list IntKind vs ≡ Some b
    → row_holds (row_at IntLinEq) (ManyValues us ∷ ManyValues vs ∷ OneValue (Int c) ∷ [])
    ≡ (total (products a b) =ℤ c)
unfolding row_at
int_lin_eq_holds us a vs b c h k = rw (h, k) refl

-- ---- the reified forms

-- each value can be read as its kind asks
abbrev pub AreRead : List Shape → List ArgValue → Type 0
AreRead [] [] = ⊤
AreRead (s ∷ ss) (v ∷ vs) = IsSome (read s v) × AreRead ss vs
AreRead _ _ = ⊥

passes_form : (says : Bool → Bool → Bool) (ss : List Shape) (t : Test ss) (vs : List ArgValue)
    (r : Bool) → AreRead ss vs → passes (with_bool ss) (with_truth says ss t)
    (vs ++ OneValue (Truth r) ∷ []) ≡ says r (passes ss t vs)
passes_form says [] t [] r h = refl
passes_form says (s ∷ ss) t (v ∷ vs) r h =
    (elim (read s v) as (λ o. IsSome o → option_map_or (λ x. passes (with_bool ss) (with_truth says ss (t x)) (vs ++ OneValue (Truth r) ∷ [])) o false ≡ says r (option_map_or (λ x. passes ss (t x) vs) o false)) [
      | None ↦ λ i. cc
      | Some x ↦ λ i. passes_form says ss (t x) vs r h.1
    ]) h.0
passes_form says _ t _ r h = absurd h

-- a reified form holds as its Boolean says, given whether the base row holds
pub reified_holds : (row : Row) (vs : List ArgValue) (r : Bool) → AreRead row.shapes vs
    → row_holds (reified row) (vs ++ OneValue (Truth r) ∷ []) ≡ (r =ᴮ row_holds row vs)
reified_holds row vs r h = passes_form ◌=ᴮ◌ row.shapes row.holds vs r h

pub implied_holds : (row : Row) (vs : List ArgValue) (r : Bool) → AreRead row.shapes vs
    → row_holds (implied row) (vs ++ OneValue (Truth r) ∷ []) ≡ (not r || row_holds row vs)
implied_holds row vs r h = passes_form (λ t holds. not t || holds) row.shapes row.holds vs r h
