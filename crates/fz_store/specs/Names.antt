-- The table of names as the list that it stands for: each name with what it stands for, in source
-- order (private functions only).
use Rattle.std.specs.Prelude.{ℕ, Bool, List, bytes_eq, map}
use Rattle.std.specs.List.{AllByRecursion}
use Rattle.fz_meaning.specs.declared.term.Term.{Term}
use Rattle.fz_store.specs.declared.names.Kept.{Kept}
use Rattle.fz_store.specs.declared.names.Names.TheInside.{Inside}
use Rattle.fz_store.specs.Naming.{Declared, stands_for, IsAmongTerms}

-- the key has the text
abbrev pub is_key : List ℕ → Kept → Bool
is_key x k = bytes_eq x k.bytes.now

-- two keys have the same text
abbrev pub same_key : Kept → Kept → Bool
same_key a b = bytes_eq a.bytes.now b.bytes.now

abbrev pub citation_stands : List Term → Kept → (List ℕ × Declared)
citation_stands ts k = (k.bytes.now, stands_for ts k.citation)

abbrev pub names_view : Inside → List (List ℕ × Declared)
names_view n = map (citation_stands n.parameters.items) n.listed.items

abbrev pub is_among_terms : List Term → Kept → Type 0
is_among_terms ts k = IsAmongTerms ts k.citation

abbrev pub AreAmongTerms : Inside → Type 0
AreAmongTerms n = AllByRecursion (is_among_terms n.parameters.items) n.listed.items
