-- What is declared, told from what it stands for.
use Rattle.std.proofs.Common.{◌≡◌, true, false, List, ℕ, arith}
use Rattle.std.proofs.lemmas.Grind.{common_steps}
use Rattle.fz_meaning.specs.declared.kind.Kind.{Kind}
use Rattle.fz_meaning.specs.declared.term.Term.{Term}
use Rattle.fz_meaning.specs.Located.{Decl}
use Rattle.fz_meaning.specs.Meaning.Place.{Scalar, Array}
use Rattle.fz_meaning.specs.Names.{kind_of_base, is_scalar, scalar_term, declared_elements, place_of_declared}

-- what stands for a scalar is one, with its kind and its term
pub scalar_by_place : (ds : List Decl) (d : Decl) (j : Kind) (t : Term)
    → place_of_declared ds d ≡ Scalar j t
    → (is_scalar d ≡ true) × (kind_of_base d.base ≡ j) × (scalar_term ds d ≡ t)
scalar_by_place ds d j t e = grind (arith, common_steps)

-- what stands for an array is one
pub array_by_place : (ds : List Decl) (d : Decl) (x : List ℕ) (j : Kind) (ts : List Term)
    → place_of_declared ds d ≡ Array x j ts → (is_scalar d ≡ false) × (d.name.text ≡ x)
    × (kind_of_base d.base ≡ j) × (declared_elements ds d ≡ ts)
array_by_place ds d x j ts e = grind (arith, common_steps)
