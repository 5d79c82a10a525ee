-- Printed values beside scalars: whether each scalar has its value.
use Rattle.std.proofs.Common.{◌≡◌, ◌≢◌, suc, Bool, true, false, ◌&&◌, ◌↔◌, IsTrue, List, [], ◌∷◌, length, Option, Some, None, refl, sym, ap, ◌∙◌, subst}
use Rattle.std.proofs.Math.Bool.{and-false}
use Rattle.std.specs.Option.{option_map_or}
use Rattle.fz_index.specs.of_model.of_base.declared.value.Value.{Value}
use Rattle.fz_index.specs.of_model.of_base.declared.value.Value.TheVariants.{Set}
use Rattle.fz_index.specs.of_model.States.{same_value, same_values}
use Rattle.fz_store.specs.of_meaning.of_base.Sets.{NumberSet}
use Rattle.fz_index.specs.of_model.Meaning.{Partial, value, values}
use Rattle.fz_index.specs.of_model.Relations.{option_cons}
use Rattle.fz_index.specs.of_model.declared.Term.{Term}
use Rattle.fz_index.proofs.of_model.Values.{no, same_value_is, value_itself}
use Rattle.fz_filling.specs.Working.{has_value, have_values}

-- a test that holds exactly for equal values is `same_value`
pub tests_same : (b : Bool) (v w : Value) → IsTrue b ↔ (v ≡ w) → b ≡ same_value v w
tests_same true v w h = sym (subst (λ u. same_value v u ≡ true) (h.0 refl) (value_itself v))
tests_same false v w h = refused (same_value v w) refl
  where
    refused : (c : Bool) → same_value v w ≡ c → false ≡ c
    refused true e = no (h.1 (same_value_is v w e))
    refused false e = refl

-- and one for equal sets
pub sets_same : (b : Bool) (s t : NumberSet) → IsTrue b ↔ (s ≡ t) → b ≡ same_value (Set s) (Set t)
sets_same b s t h = tests_same b (Set s) (Set t) (λ e. ap Set (h.0 e), λ e. h.1 (inside e))
  where
    inside : ◌≡◌ {A = Value} (Set s) (Set t) → s ≡ t
    inside e = cc

pub not_as_many : (K : Partial) (ts : List Term) (vs : List Value) → length ts ≢ length vs
    → false ≡ have_values K ts vs
not_as_many K [] [] h = absurd (h refl)
not_as_many K [] (v ∷ vs) h = refl
not_as_many K (t ∷ ts) [] h = refl
not_as_many K (t ∷ ts) (v ∷ vs) h = sym (and-false (has_value K (t, v))) ∙ ap (λ b. has_value K (t, v) && b) (not_as_many K ts vs (λ e. h (ap suc e)))

-- the scalars have the values exactly where their values are the same
pub are_same : (K : Partial) (ts : List Term) (vs : List Value)
    → have_values K ts vs ≡ option_map_or (λ us. same_values us vs) (values K ts) false
are_same K [] [] = refl
are_same K [] (v ∷ vs) = refl
are_same K (t ∷ ts) [] = no_values (value K t) (values K ts)
  where
    no_values : (o : Option Value) (os : Option (List Value))
        → false ≡ option_map_or (λ us. same_values us []) (option_cons o os) false
    no_values None os = refl
    no_values (Some u) None = refl
    no_values (Some u) (Some us) = refl
are_same K (t ∷ ts) (v ∷ vs) = ap (λ b. has_value K (t, v) && b) (are_same K ts vs) ∙ one_more (value K t) (values K ts)
  where
    one_more : (o : Option Value) (os : Option (List Value))
        → (option_map_or (λ u. same_value u v) o false && option_map_or
        (λ us. same_values us vs) os false)
        ≡ option_map_or (λ us. same_values us (v ∷ vs)) (option_cons o os) false
    one_more None os = refl
    one_more (Some u) None = and-false (same_value u v)
    one_more (Some u) (Some us) = refl
