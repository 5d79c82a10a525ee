-- The scalars of a constraint's arguments, as a store has them.
use Rattle.std.proofs.Common.{◌≡◌, ℕ, true, List, [], ◌∷◌, map, flat_map, Some, option_map, slice_get, refl, sym, ap, ◌∙◌}
use Rattle.std.specs.List.{list_all}
use Rattle.std.proofs.lemmas.Bool.{false≢true}
use Rattle.std.proofs.lemmas.Option.{slice_get-map}
use Rattle.fz_builtins.specs.of_meaning.of_base.declared.value.Value.{Value}
use Rattle.fz_builtins.specs.of_meaning.Meaning.{terms_at}
use Rattle.fz_builtins.specs.of_store.declared.parts.Variable.{Variable}
use Rattle.fz_builtins.specs.of_store.declared.parts.Array.{Array}
use Rattle.fz_builtins.specs.of_store.declared.Slot.{Slot}
use Rattle.fz_builtins.specs.of_store.declared.Slot.TheVariants as slots
use Rattle.fz_builtins.specs.of_store.Parts.{place_view}
use Rattle.fz_builtins.specs.of_store.Slots.{is_scalar, slot_term}

-- ---- a list that is mapped

pub mapped_at : {A B : Type 0} (f : A → B) (xs : List A) (i : ℕ) (x : A) → slice_get xs i ≡ Some x
    → Some (f x) ≡ slice_get (map f xs) i
mapped_at f xs i x e = sym (slice_get-map f xs i ∙ ap (option_map f) e)

-- ---- slots that are no array

pub flat_terms : (vs : List Variable) (xs : List Array) (cs : List Value) (ss : List Slot)
    → list_all is_scalar ss ≡ true
    → map (slot_term cs) ss ≡ flat_map terms_at (map (place_view vs xs cs) ss)
flat_terms vs xs cs [] h = refl
flat_terms vs xs cs (slots.Variable n ∷ ss) h = ap (λ ts. slot_term cs (slots.Variable n) ∷ ts) (flat_terms vs xs cs ss h)
flat_terms vs xs cs (slots.Number i ∷ ss) h = ap (λ ts. slot_term cs (slots.Number i) ∷ ts) (flat_terms vs xs cs ss h)
flat_terms vs xs cs (slots.Truth b ∷ ss) h = ap (λ ts. slot_term cs (slots.Truth b) ∷ ts) (flat_terms vs xs cs ss h)
flat_terms vs xs cs (slots.Constant k ∷ ss) h = ap (λ ts. slot_term cs (slots.Constant k) ∷ ts) (flat_terms vs xs cs ss h)
flat_terms vs xs cs (slots.Array i ∷ ss) h = absurd (false≢true h)
