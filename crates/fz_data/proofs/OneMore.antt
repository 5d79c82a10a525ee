-- One more declaration is taken in, and one more constraint.
use Rattle.std.proofs.Common.{◌≡◌, List, [], ◌∷◌, ◌++◌, None, map, refl, sym, ap, subst, ◌∙◌, append_assoc}
use Rattle.fz_store.specs.of_meaning.Located.{Decl}
use Rattle.fz_store.specs.of_meaning.Names.{fault_at_decl, posted_of, kinds}
use Rattle.fz_store.proofs.of_meaning.ScanSteps.{decls_one_more}
use Rattle.fz_data.specs.declared.scope.Item.{Item}
use Rattle.fz_store.specs.declared.scope.Scope.{Scope}
use Rattle.fz_data.specs.Scope.{IsAdded, IsItem, constraint_fault_in, kinds_in, place_in}
use Rattle.fz_data.specs.Stands.{StandsFor, Declares}
use Rattle.fz_data.proofs.Knows.{same_kinds}
use Rattle.fz_data.proofs.Next.{stands_next}
use Rattle.fz_data.proofs.Stands.{stands_none}
use Rattle.std.proofs.lemmas.List.{map-append}
use Rattle.fz_store.specs.of_meaning.Located.{Constraint}
use Rattle.fz_store.specs.of_meaning.Meaning.{first_some, row_of}
use Rattle.fz_store.proofs.of_meaning.ScanSteps.{first_append, both_none}
use Rattle.fz_store.specs.declared.parts.Posted.{Posted}
use Rattle.fz_store.specs.declared.store.Store.{Store}
use Rattle.fz_store.specs.Parts.{posted_view, kept_row}
use Rattle.fz_data.specs.Posting.{IsLonger, IsPostedOf, Posts}
use Rattle.fz_data.proofs.Grown.{longer_more}

pub declares_none : (s : Scope) → s.names ≡ [] → s.variables.items ≡ [] → s.arrays.items ≡ []
    → s.points.items ≡ [] → Declares [] s
declares_none s names variables arrays points = record { clean = refl; stands = λ rest. rw (names, variables, arrays, points) (stands_none rest) }

-- the fault at a declaration is that of the scope
pub fault_same : (known : List Decl) (s : Scope) (d : Decl) → Declares known s
    → fault_at_decl (kinds_in s) d ≡ fault_at_decl (kinds known) d
fault_same known s d h = ap (λ at. fault_at_decl at d) (same_kinds (known ++ []) known s (h.stands []))

pub declares_more : (known : List Decl) (d : Decl) (s new : Scope) (it : Item) → Declares known s
    → fault_at_decl (kinds_in s) d ≡ None → IsItem s d it → IsAdded s d.name.text it new
    → Declares (known ++ d ∷ []) new
declares_more known d s new it h clean is added = record {
  clean = decls_one_more known d h.clean (sym (fault_same known s d h) ∙ clean);
  stands = λ rest.
      let split = append_assoc known (d ∷ []) rest in
      stands_next ((known ++ d ∷ []) ++ rest) known rest d split s (subst (λ (all : List Decl). StandsFor all known s) (sym split) (h.stands (d ∷ rest))) clean d.name.text refl it new is added;
}

pub posts_none : (s : Scope) (store : Store) (found : List Posted) → found ≡ []
    → Posts s [] store found
posts_none s store found none = record {
  clean = refl;
  views = λ later g. ap (map (posted_view s.variables.items s.arrays.items later)) none;
  rows = ap (map kept_row) none;
}

pub posts_more : (s : Scope) (known : List Constraint) (c : Constraint) (store newer : Store)
    (found new : List Posted) (p : Posted) → Posts s known store found
    → constraint_fault_in s c ≡ None → IsLonger store newer → new ≡ found ++ p ∷ []
    → IsPostedOf s newer (posted_of (place_in s) c) p
    → kept_row p ≡ row_of (posted_of (place_in s) c) → Posts s (known ++ c ∷ []) newer new
posts_more s known c store newer found new p h clean longer pushed is row = record {
  clean = first_append (constraint_fault_in s) known (c ∷ []) ∙ both_none (first_some (constraint_fault_in s) known) (first_some (constraint_fault_in s) (c ∷ [])) h.clean (both_none (constraint_fault_in s c) None clean refl);
  views = λ later g.
      let view = posted_view s.variables.items s.arrays.items later in
      ap (map view) pushed ∙ map-append view found (p ∷ []) ∙ (λ i. h.views later (longer_more store newer later longer g) i ++ is later g i ∷ []) ∙ sym (map-append (posted_of (place_in s)) known (c ∷ []));
  rows = ap (map kept_row) pushed ∙ map-append kept_row found (p ∷ []) ∙ (λ i. h.rows i ++ row i ∷ []) ∙ sym (ap (map row_of) (map-append (posted_of (place_in s)) known (c ∷ [])) ∙ map-append row_of (map (posted_of (place_in s)) known) (posted_of (place_in s) c ∷ []));
}
