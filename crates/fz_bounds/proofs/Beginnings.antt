-- What a known-solution says of the domain of a variable.
use Rattle.std.proofs.Common.{◌≡◌, ℕ, zero, suc, List, [], ◌∷◌, map, None, Some, refl, sym, ap, subst₂, slice_get, ◌∙◌, IsTrue}
use Rattle.fz_model.specs.Relations.{kind_of}
use Rattle.fz_model.specs.Meaning.{Assignment, Model, Partial, Point, Variable, inside, points, value_at, variables_of, whole}
use Rattle.fz_model.specs.Meaning.Point.{DomainPoint, DefinitionPoint, ArrayPoint, ConstraintPoint}
use Rattle.fz_model.specs.States.{HoldsIfKnown, IsKnownSolution}
use Rattle.fz_model.specs.Partial.{nothing_for}
use Rattle.fz_model.proofs.Lists.{at_place}
use Rattle.fz_model.proofs.Points.{points_fit}
use Rattle.fz_model.proofs.States.{intro}
use Rattle.fz_model.proofs.Steps.{PointFits}
use Rattle.fz_model.proofs.Under.{assigned, some_and}
use Rattle.fz_bounds.specs.Bounds.{IsInDomain, IsInside, LiesBetween, LiesIn}

known_domain : (m : Model) (A : Assignment) (k : ℕ) (x : Variable) (n : ℕ)
    → IsKnownSolution m A → slice_get (points m) k ≡ Some (DomainPoint x n)
    → LiesIn x.kind x.domain (value_at (whole A) n)
known_domain m A k x n solution at =
    let (w, is, kind) = assigned (variables_of m) A n x.kind solution.assignment (at_place (PointFits m) (points m) k (DomainPoint x n) (points_fit m) at) in
    let holds = at_place (HoldsIfKnown (whole A)) (points m) k (DomainPoint x n) solution.each_holds at in
    intro (λ v. (kind_of v ≡ x.kind) × IsTrue (inside x.domain v)) (value_at (whole A) n) w is (kind, some_and (λ v. IsTrue (inside x.domain v)) (value_at (whole A) n) w holds is)

pub in_domain : (m : Model) (A : Assignment) (k : ℕ) (p : Point) → IsKnownSolution m A
    → slice_get (points m) k ≡ Some p → IsInDomain A p
in_domain m A k (DomainPoint x n) solution at = known_domain m A k x n solution at
in_domain m A k (DefinitionPoint x n e) solution at = tt
in_domain m A k (ArrayPoint name d ts) solution at = tt
in_domain m A k (ConstraintPoint j p) solution at = tt

-- ---- bounds of which nothing is known

pub none_there : (xs : List Variable) (n : ℕ) → value_at (map (λ x. None) xs) n ≡ None
none_there [] n = refl
none_there (x ∷ xs) zero = refl
none_there (x ∷ xs) (suc n) = none_there xs n

pub nothing_known : (m : Model) (L H : Partial) → L ≡ nothing_for m → H ≡ nothing_for m
    → (A : Assignment) → IsInside (record { lowest = L; highest = H }) A
nothing_known m L H e f A n =
    subst₂ (λ o p. LiesBetween o p (value_at (whole A) n)) (sym (ap (λ K. value_at K n) e ∙ none_there (variables_of m) n)) (sym (ap (λ K. value_at K n) f ∙ none_there (variables_of m) n)) (tt, tt)
