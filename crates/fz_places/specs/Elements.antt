-- The element of an array that a name is, with its indices (this project's profile; MiniZinc
-- Handbook, FlatZinc, "Annotations"). An array that is printed has the annotation
-- `output_array([S1,S2,..])`, with a range for each of its index sets. Its elements are in the
-- order of their indices, of which the last runs fastest.
use Rattle.std.specs.Prelude.{ℕ, ℤ, pos, ◌+ℤ◌, ◌/◌, ◌%◌, ◌==◌, Bool, false, cond, List, [], ◌∷◌, Option, Some, None, bytes_eq, codes, option_map}
use Rattle.std.specs.List.{position_from}
use Rattle.std.specs.Option.{option_and_then}
use Rattle.fz_meaning.specs.of_base.Sets.{count_between}
use Rattle.fz_meaning.specs.Meaning.{first_some}
use Rattle.fz_tree.specs.Tree.{Basic, Decl, Expr, NoteArg, NoteBasic, NoteBasics}
use Rattle.fz_tree.specs.Tree.Literal.{Range}
use Rattle.fz_tree.specs.Tree.Basic.{Lit, Named}
use Rattle.fz_tree.specs.Tree.Expr.{Several}
use Rattle.fz_tree.specs.Tree.NoteArg.{ListOf, OneBasic}
use Rattle.fz_tree.specs.Tree.NoteBasics.{NoMoreBasics, MoreBasics}
use Rattle.fz_tree.specs.Tree.NoteBasic.{NoteLiteral}
use Rattle.fz_places.specs.Annotations.{argument_of}
use Rattle.fz_places.specs.declared.element.Element.{Element}

abbrev pub element_view : Element → List ℕ × List ℤ
element_view e = (e.array.now, e.indices.items)

abbrev pub range_of : NoteBasic → Option (ℤ × ℤ)
range_of (NoteLiteral (Range low high)) = Some (low, high)
range_of b = None

abbrev pub listed : NoteArg → Option NoteBasics
listed (ListOf bs) = Some bs
listed (OneBasic b) = None

-- the index in a range of an element that has this place, and its place without this index
abbrev pub index_between : ℤ → ℤ → ℕ → Option (ℕ × ℤ)
index_between low high k = cond (count_between low high == 0) None
    (Some (k / count_between low high, low +ℤ pos (k % count_between low high)))

abbrev pub index_in : NoteBasic → ℕ → Option (ℕ × ℤ)
index_in set k = option_and_then (λ r. index_between r.0 r.1 k) (range_of set)

-- the indices in all these sets, and what is left of the place
abbrev pub indices_in : NoteBasics → ℕ → Option (ℕ × List ℤ)
indices_in NoMoreBasics k = Some (k, [])
indices_in (MoreBasics set sets) k = option_and_then (λ behind.
    option_map (λ i. (i.0, i.1 ∷ behind.1)) (index_in set behind.0)) (indices_in sets k)

-- the indices of the element at this place, from 0
abbrev pub indices_at : NoteBasics → ℕ → Option (List ℤ)
indices_at sets k = option_and_then (λ all. cond (all.0 == 0) (Some all.1) None) (indices_in sets k)

-- the same in the array that is declared, by the index sets of its annotation
abbrev pub indices_of : Decl → ℕ → Option (List ℤ)
indices_of d k = option_and_then (λ sets. indices_at sets k)
    (option_and_then listed (first_some (argument_of (codes "output_array")) d.notes))

abbrev pub is_name : List ℕ → Basic → Bool
is_name x (Named y) = bytes_eq y x
is_name x (Lit l) = false

abbrev pub elements_of : Option Expr → List Basic
elements_of (Some (Several bs)) = bs
elements_of e = []

-- the array that is declared, and the indices of its first element of this name
abbrev pub element_in : List ℕ → Decl → Option (List ℕ × List ℤ)
element_in x d = option_and_then (λ k. option_map (λ is. (d.name, is)) (indices_of d k))
    (position_from (is_name x) 0 (elements_of d.value))
