-- One more declaration.
use Rattle.std.proofs.Common.{◌≡◌, ℕ, true, cond, List, [], ◌∷◌, ◌++◌, length, Option, Some, None, is_some, is_none, option_map, refl, sym, ap, ◌∙◌}
use Rattle.std.specs.Map.{lookup}
use Rattle.std.proofs.lemmas.List.{length-map}
use Rattle.fz_store.specs.of_meaning.Located.{Decl}
use Rattle.fz_store.specs.of_meaning.Names.{parts, kind_of_base, variable_declared, Fault, name_fault, fault_at_decl, kinds}
use Rattle.fz_store.specs.of_meaning.Laws.{scalar_variables}
use Rattle.fz_store.proofs.of_meaning.KnownNames.{is_new, parts_clean, next_number}
use Rattle.fz_store.proofs.of_meaning.ScanSteps.{first_none}
use Rattle.fz_data.specs.declared.scope.Item.{Item}
use Rattle.fz_data.specs.declared.scope.Item.TheVariants as items
use Rattle.fz_store.specs.declared.scope.Scope.{Scope}
use Rattle.fz_store.specs.Parts.{variable_view}
use Rattle.fz_store.specs.Declarations.{declared_place}
use Rattle.fz_store.specs.Naming.{has_text}
use Rattle.fz_data.specs.Scope.{IsNewName, IsAdded, IsItem, place_kind, kinds_in, kept_with, new_variables, new_arrays, new_points}
use Rattle.fz_data.specs.Stands.{StandsFor}
use Rattle.fz_data.proofs.Stands.{Adds, stands_more}
use Rattle.fz_data.proofs.Added.{adds_parameter, adds_variable, adds_array}
use Rattle.fz_data.proofs.Knows.{same_kinds, terms_same, definition_same}

-- a declaration without a fault has a new name
not_some : {A B C : Type 0} (h : B → C) (k : A → B) (o : Option A) (f : Fault) (g : Option Fault)
    → cond (is_some (option_map h (option_map k o))) (Some f) g ≡ None → is_none o ≡ true
not_some h k None f g e = refl
not_some h k (Some x) f g e = cc

pub new_name : (s : Scope) (d : Decl) → fault_at_decl (kinds_in s) d ≡ None
    → IsNewName s d.name.text
new_name s d e =
    not_some place_kind (declared_place s.variables.items s.arrays.items) (lookup (has_text d.name.text) s.names) _ _ (first_none (name_fault (kinds_in s) d) _ e)

module _ (all known rest : List Decl) (d : Decl) (split : all ≡ known ++ d ∷ rest) (s : Scope) (st : StandsFor all known s) (clean : fault_at_decl (kinds_in s) d ≡ None) (k : List ℕ) (named : k ≡ d.name.text) where
  clean_here : fault_at_decl (kinds known) d ≡ None
  clean_here = ap (λ at. fault_at_decl at d) (sym (same_kinds all known s st)) ∙ clean

  count : length s.variables.items ≡ next_number known
  count = sym (length-map s.variables.items variable_view) ∙ ap length st.variables ∙ length-map (scalar_variables known) variable_declared

  adds : (it : Item) → IsItem s d it → Adds all known d (k, kept_with s it) s.variables.items
      (new_variables it) s.arrays.items (new_arrays it) (new_points s it)
  adds (items.Parameter v) is = adds_parameter all known d k v named is.0 is.1 is.2 is.3 s.variables.items s.arrays.items
  adds (items.Variable v) is =
      adds_variable all known d rest split (is_new known d clean_here) k v named is.0 is.1 is.2 (is.3 ∙ definition_same all known s st (d ∷ rest) split (kind_of_base d.base) d.value (parts_clean known d clean_here))
      s.variables.items count s.arrays.items
  adds (items.Array x) is =
      adds_array all known d k x named is.0 is.1.0 is.1.1 is.1.2 is.1.3 (is.1.4 ∙ terms_same all known s st (d ∷ rest) split (kind_of_base d.base) (parts d.value) (parts_clean known d clean_here))
      s.variables.items s.arrays.items

  pub stands_next : (it : Item) (new : Scope) → IsItem s d it → IsAdded s k it new
      → StandsFor all (known ++ d ∷ []) new
  stands_next it new is added =
      rw (added.names, added.variables, added.arrays, added.points)
      (stands_more all known d s.names (k, kept_with s it) s.variables.items (new_variables it) s.arrays.items (new_arrays it) s.points.items (new_points s it) st (adds it is))
