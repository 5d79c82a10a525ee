-- A test of equality passes exactly where the values are equal.
use Rattle.std.proofs.Common.{◌≡◌, ℤ, Bool, true, false, ◌&&◌, List, [], ◌∷◌, refl, sym, ap, true≢false, is_eq, int_cmp, arith}
use Rattle.std.specs.FinSet.{contains, is_subset, is_subset-contains, contains-is_subset, same_set, int_cmp-IsAntisymmetric}
use Rattle.std.specs.Cmp.{int_cmp_total, Equal-is, tied_itself}
use Rattle.std.proofs.lemmas.Grind.{common_steps}
use Rattle.fz_meaning.specs.Relations.{◌=ℤ◌, ◌=ᴮ◌, ◌=ˢ◌}
use Rattle.fz_meaning.specs.States.{same_value, same_values}
use Rattle.fz_base.specs.declared.value.Value.{Value}
use Rattle.fz_base.specs.Sets.{NumberSet}

pub no : {P : Type 0} → false ≡ true → P
no e = absurd (true≢false (sym e))

pub no' : {P : Type 0} → true ≡ false → P
no' e = absurd (true≢false e)

pub and_first : (a b : Bool) → (a && b) ≡ true → a ≡ true
and_first true b e = refl
and_first false b e = no e

pub and_second : (a b : Bool) → (a && b) ≡ true → b ≡ true
and_second true b e = e
and_second false b e = no e

pub and_both : (a b : Bool) → a ≡ true → b ≡ true → (a && b) ≡ true
and_both true b d e = e
and_both false b d e = no d

pub same_truth : (p q : Bool) → (p ≡ true → q ≡ true) → (q ≡ true → p ≡ true) → p ≡ q
same_truth p q f g = grind (arith, common_steps)

pub same_int : (a b : ℤ) → (a =ℤ b) ≡ true → a ≡ b
same_int a b e = int_cmp-IsAntisymmetric a b ((Equal-is (int_cmp a b)).0 e)

pub int_itself : (a : ℤ) → (a =ℤ a) ≡ true
int_itself a = ap is_eq (tied_itself int_cmp_total a)

pub same_bool : (a b : Bool) → (a =ᴮ b) ≡ true → a ≡ b
same_bool a b e = grind (arith, common_steps, no)

pub bool_itself : (a : Bool) → (a =ᴮ a) ≡ true
bool_itself true = refl
bool_itself false = refl

pub same_set_is : (s t : NumberSet) → (s =ˢ t) ≡ true → s ≡ t
same_set_is s t e =
    same_set int_cmp_total int_cmp-IsAntisymmetric s t (λ q. same_truth (contains s q) (contains t q)
    (is_subset-contains int_cmp_total s t (and_first (is_subset s t) (is_subset t s) e) q)
    (is_subset-contains int_cmp_total t s (and_second (is_subset s t) (is_subset t s) e) q))

pub set_itself : (s : NumberSet) → (s =ˢ s) ≡ true
set_itself s = and_both (is_subset s s) (is_subset s s) (contains-is_subset int_cmp_total s s (λ q h. h)) (contains-is_subset int_cmp_total s s (λ q h. h))

pub same_value_is : (v w : Value) → same_value v w ≡ true → v ≡ w
same_value_is v w e = grind (arith, common_steps, same_int, same_bool, same_set_is, no)

pub value_itself : (v : Value) → same_value v v ≡ true
value_itself v = grind (arith, common_steps, int_itself, bool_itself, set_itself)

pub same_values_is : (vs ws : List Value) → same_values vs ws ≡ true → vs ≡ ws
same_values_is [] [] e = refl
same_values_is (v ∷ vs) (w ∷ ws) e =
    let one : v ≡ w = same_value_is v w (and_first (same_value v w) (same_values vs ws) e) in
    let rest : vs ≡ ws = same_values_is vs ws (and_second (same_value v w) (same_values vs ws) e) in
    λ i. one i ∷ rest i
same_values_is _ _ e = no e

pub values_itself : (vs : List Value) → same_values vs vs ≡ true
values_itself [] = refl
values_itself (v ∷ vs) = and_both (same_value v v) (same_values vs vs) (value_itself v) (values_itself vs)
