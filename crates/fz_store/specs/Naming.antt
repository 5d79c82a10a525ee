-- What declared names stand for, and how the table of names stores it (private functions only).
use Rattle.std.specs.Prelude.{ℕ, ◌<◌, Bool, List, ⊤, bytes_eq, slice_get, pos, length}
use Rattle.std.specs.Option.{option_map_or}
use Rattle.fz_meaning.specs.of_base.declared.value.Value.TheVariants.{Int}
use Rattle.fz_meaning.specs.declared.term.Term.{Term}
use Rattle.fz_meaning.specs.declared.term.Term.TheVariants.{Var, Fixed}
use Rattle.fz_store.specs.declared.names.Citation.{Citation}
use Rattle.fz_store.specs.declared.names.Citation.TheVariants as citations
use Rattle.fz_store.specs.declared.names.Standing.{Standing}
use Rattle.fz_store.specs.declared.names.Standing.TheVariants as standings

-- what a declared name stands for: a scalar, or the array of a number
pub data Declared : Type 0 where
  Scalar : (term : Term) → Declared
  Array : (number : ℕ) → Declared

-- the name is the text
abbrev pub has_text : List ℕ → List ℕ → Bool
has_text x k = bytes_eq x k

abbrev pub no_term : Term
no_term = Fixed (Int (pos 0))

-- what a citation stands for; the parameters' terms are these
abbrev pub stands_for : List Term → Citation → Declared
stands_for ts (citations.Variable n) = Scalar (Var n)
stands_for ts (citations.Parameter i) = Scalar (option_map_or (λ t. t) (slice_get ts i) no_term)
stands_for ts (citations.Array i) = Array i

-- a parameter's number is that of a term
abbrev pub IsAmongTerms : List Term → Citation → Type 0
IsAmongTerms ts (citations.Variable n) = ⊤
IsAmongTerms ts (citations.Parameter i) = i < length ts
IsAmongTerms ts (citations.Array i) = ⊤

-- what is said of a name
abbrev pub standing_view : Standing → Declared
standing_view (standings.Variable n) = Scalar (Var n)
standing_view (standings.Parameter t) = Scalar t.now
standing_view (standings.Array i) = Array i
