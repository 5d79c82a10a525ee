-- A fault of names at an item is the first of the whole text, whatever is left behind it.
use Rattle.std.proofs.Common.{◌≡◌, ℕ, List, [], ◌∷◌, ◌++◌, map, None, refl, ap, subst, ◌∙◌, inl, inr}
use Rattle.std.specs.Prelude.{◌≢◌, ◌⊎◌}
use Rattle.std.proofs.lemmas.List.{map-append}
use Rattle.fz_syntax.specs.Offering.{IsTextOfAllWithin, all_items}
use Rattle.fz_tree.specs.View.{TreeItems}
use Rattle.fz_tree.specs.declared.limits.Limits.{Limits}
use Rattle.fz_tree.specs.declared.error.SyntaxError.{SyntaxError}
use Rattle.fz_tree.specs.declared.tree.Decl.{Decl}
use Rattle.fz_tree.specs.declared.tree.Constraint.{Constraint}
use Rattle.fz_tree.specs.declared.tree.Solve.{Solve}
use Rattle.fz_store.specs.of_meaning.Names.{decls_fault, first_fault, fault_at_decl, kinds}
use Rattle.fz_store.specs.of_meaning.Meaning.{first_some}
use Rattle.fz_store.specs.of_meaning.View.{Tells, located_all, located_constraint, located_decl}
use Rattle.fz_store.specs.of_meaning.declared.error.ModelError.{ModelError}
use Rattle.fz_store.specs.of_meaning.declared.error.ModelError.TheVariants as names
use Rattle.fz_store.proofs.of_meaning.ScanSteps.{decls_stop, first_append}
use Rattle.fz_data.specs.declared.error.LoadError.{LoadError}
use Rattle.fz_data.specs.declared.error.LoadError.TheVariants as errors
use Rattle.fz_store.specs.declared.scope.Scope.{Scope}
use Rattle.fz_data.specs.Scope.{constraint_fault_in}
use Rattle.fz_data.specs.Stands.{Declares}
use Rattle.fz_data.specs.Texts.{TellsOf, IsNameFaultWithin, IsLoadRefusal}
use Rattle.fz_data.proofs.Loaded.{all_stand, told_in_constraints}
use Rattle.fz_data.proofs.Tells.{tells_further}

-- what is left is put together with what was taken before
module _ {Q R : Type 0} (Left : Q → Type 0) (all : Q → TreeItems) (Before : R → Type 0) (every : R → TreeItems) (put : Q → R) (puts : (q : Q) → Left q → Before (put q)) (same : (q : Q) → first_fault (located_all (all q)) ≡ first_fault (located_all (every (put q)))) where
  names_before : (e : ModelError) → (e ≡ names.Memory) ⊎ TellsOf Left all e
      → (e ≡ names.Memory) ⊎ TellsOf Before every e
  names_before e (inl memory) = inl memory
  names_before e (inr h) = inr (record { rest = put h.rest; left = puts h.rest h.left; tells = subst (Tells e) (same h.rest) h.tells })

  pub refusal_before : (Here There : SyntaxError → Type 0) → ((e : SyntaxError) → Here e → There e)
      → (e : LoadError) → IsLoadRefusal Here Left all e → IsLoadRefusal There Before every e
  refusal_before Here There is (errors.Text e) h = is e h
  refusal_before Here There is (errors.Names e) h = names_before e h

pub told_at_decl : (ds : List Decl) (d : Decl) (r : List Decl × (List Constraint × Solve))
    (e : ModelError) → decls_fault [] (map located_decl ds) ≡ None
    → Tells e (fault_at_decl (kinds (map located_decl ds)) (located_decl d))
    → Tells e (first_fault (located_all (all_items ([], (ds ++ d ∷ r.0, r.1)))))
told_at_decl ds d r e clean tells =
    tells_further e _ (first_fault (located_all (all_items ([], (ds ++ d ∷ r.0, r.1)))))
    (λ y here. rw (ap (decls_fault []) (map-append located_decl ds (d ∷ r.0)) ∙ decls_stop (map located_decl ds) (located_decl d) (map located_decl r.0) y clean here) refl) tells

pub told_at_constraint : (ds : List Decl) (cs : List Constraint) (c : Constraint)
    (r : List Constraint × Solve) (s : Scope) (e : ModelError) → Declares (map located_decl ds) s
    → first_some (constraint_fault_in s) (map located_constraint cs) ≡ None
    → Tells e (constraint_fault_in s (located_constraint c)) → Tells e (first_fault (located_all (all_items ([], (ds, (cs ++ c ∷ r.0, r.1))))))
told_at_constraint ds cs c r s e h clean tells =
    told_in_constraints (located_all (all_items ([], (ds, (cs ++ c ∷ r.0, r.1))))) s (all_stand (located_all (all_items ([], (ds, (cs ++ c ∷ r.0, r.1))))) s h) h.clean e
    (tells_further e _ _ (λ y here. ap (first_some (constraint_fault_in s)) (map-append located_constraint cs (c ∷ r.0)) ∙ first_append (constraint_fault_in s) (map located_constraint cs) (located_constraint c ∷ map located_constraint r.0) ∙ rw (clean, here) refl) tells)

-- a refusal of names tells the first fault
pub first_told : (limits : Limits) (source : List ℕ) (e : ModelError) → e ≢ names.Memory
    → (e ≡ names.Memory) ⊎ TellsOf (IsTextOfAllWithin limits source) (λ t. t) e
    → IsNameFaultWithin limits source e
first_told limits source e other (inl memory) = absurd (other memory)
first_told limits source e other (inr h) = record { all = h.rest; text = h.left; tells = h.tells }
