-- Each point of a model fits it: the variable of a domain's point has the kind that the model has
-- at its number.
use Rattle.std.proofs.Common.{◌≡◌, ℕ, suc, List, [], ◌∷◌, ◌++◌, length, Option, Some, None, refl, ap, subst, ◌∙◌, option_map, slice_get, flat_map, arith, append_assoc, length-append}
use Rattle.std.specs.Prelude.{⊤}
use Rattle.std.specs.List.{AllByRecursion}
use Rattle.std.proofs.lemmas.Grind.{common_steps}
use Rattle.fz_meaning.specs.Meaning.{Variable, Declared, Posted, Model, Point, points, variables_of, variable_of, numbered_from, numbered, declared_points, definition_points, array_points, constraint_points}
use Rattle.fz_meaning.specs.declared.term.Term.{Term}
use Rattle.fz_meaning.specs.declared.term.Domain.{Domain}
use Rattle.fz_meaning.specs.Meaning.Declared.{Parameter, ScalarVariable, ArrayOfVariables}
use Rattle.fz_meaning.specs.Meaning.Point.{DomainPoint, DefinitionPoint, ArrayPoint, ConstraintPoint}
use Rattle.fz_meaning.proofs.Lists.{all_append, all_map}
use Rattle.fz_meaning.proofs.Steps.{PointFits}

-- ---- each point fits its model

pub slice_get_at : {A : Type 0} (xs ys : List A) (y : A) → slice_get (xs ++ y ∷ ys) (length xs) ≡ Some y
slice_get_at [] ys y = refl
slice_get_at (x ∷ xs) ys y = slice_get_at xs ys y

abbrev FitsIn : List Variable → Point → Type 0
FitsIn xs (DomainPoint x n) = option_map (λ y. y.kind) (slice_get xs n) ≡ Some x.kind
FitsIn xs (DefinitionPoint x n e) = ⊤
FitsIn xs (ArrayPoint name d ts) = ⊤
FitsIn xs (ConstraintPoint k p) = ⊤

definition_fits : (xs : List Variable) (x : Variable) (n : ℕ) (e : Option Term)
    → AllByRecursion (FitsIn xs) (definition_points x n e)
definition_fits xs x n None = tt
definition_fits xs x n (Some e) = (tt, tt)

array_fits : (xs : List Variable) (name : List ℕ) (d : Domain) (ts : List Term)
    → AllByRecursion (FitsIn xs) (array_points name d ts)
array_fits xs name d ts = grind (arith, common_steps)

declared_fit : (before : List Variable) (n : ℕ) (ds : List Declared) → length before ≡ n
    → AllByRecursion (FitsIn (before ++ flat_map variable_of ds))
    (flat_map declared_points (numbered_from n ds))
declared_fit before n [] e = tt
declared_fit before n (Parameter name p ∷ ds) e = declared_fit before n ds e
declared_fit before n (ArrayOfVariables name k d ts ∷ ds) e =
    all_append (FitsIn (before ++ flat_map variable_of ds)) (array_points name d ts) (flat_map declared_points (numbered_from n ds)) (array_fits _ name d ts) (declared_fit before n ds e)
declared_fit before n (ScalarVariable x d ∷ ds) e =
    let vs : List Variable = before ++ x ∷ flat_map variable_of ds in
    let here : option_map (λ y. y.kind) (slice_get vs n) ≡ Some x.kind = subst (λ j. option_map (λ y. y.kind) (slice_get vs j) ≡ Some x.kind) e (ap (option_map (λ y. y.kind)) (slice_get_at before (flat_map variable_of ds) x)) in
    let count : length (before ++ x ∷ []) ≡ suc n = length-append before (x ∷ []) ∙ omega arith in
    let rest : AllByRecursion (FitsIn ((before ++ x ∷ []) ++ flat_map variable_of ds)) (flat_map declared_points (numbered_from (suc n) ds)) = declared_fit (before ++ x ∷ []) (suc n) ds count in
    let rest' : AllByRecursion (FitsIn vs) (flat_map declared_points (numbered_from (suc n) ds)) = subst (λ ws. AllByRecursion (FitsIn ws) (flat_map declared_points (numbered_from (suc n) ds))) (append_assoc before (x ∷ []) (flat_map variable_of ds)) rest in
    (here, all_append (FitsIn vs) (definition_points x n d) (flat_map declared_points (numbered_from (suc n) ds)) (definition_fits vs x n d) rest')

constraints_fit : (xs : List Variable) (n : ℕ) (ps : List Posted)
    → AllByRecursion (FitsIn xs) (constraint_points n ps)
constraints_fit xs n [] = tt
constraints_fit xs n (p ∷ ps) = (tt, constraints_fit xs (suc n) ps)

as_fits : (m : Model) (p : Point) → FitsIn (variables_of m) p → PointFits m p
as_fits m p h = grind (arith, common_steps)

pub points_fit : (m : Model) → AllByRecursion (PointFits m) (points m)
points_fit m =
    all_map (FitsIn (variables_of m)) (PointFits m) (as_fits m) (points m)
    (all_append (FitsIn (variables_of m)) (flat_map declared_points (numbered m)) (constraint_points 1 m.constraints) (declared_fit [] 0 m.declared refl) (constraints_fit (variables_of m) 1 m.constraints))
