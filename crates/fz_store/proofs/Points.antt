-- The points of a model by their numbers: those of the declarations, then the constraints.
use Rattle.std.proofs.Common.{◌≡◌, ℕ, zero, suc, ◌+◌, ◌-◌, ◌<◌, ◌≤◌, List, [], ◌∷◌, ◌++◌, map, length, Some, None, option_map, slice_get, refl, sym, ap, ◌∙◌, arith, is_some, get_or}
use Rattle.std.proofs.lemmas.List.{length-map}
use Rattle.std.proofs.Common.{length-append}
use Rattle.std.proofs.lemmas.Option.{slice_get-map, slice_get_read, same_Some}
use Rattle.std.specs.Option.{option_map_or}
use Rattle.fz_store.proofs.NameTable.{get_front}
use Rattle.fz_meaning.specs.Meaning.{Point, Posted, constraint_points, points, row_of}
use Rattle.fz_meaning.specs.Meaning.Point.{DomainPoint, DefinitionPoint, ArrayPoint, ConstraintPoint}
use Rattle.fz_meaning.proofs.Lists.{at_place}
use Rattle.fz_meaning.specs.declared.term.Term.{Term}
use Rattle.fz_meaning.specs.declared.term.Domain.TheVariants.{All}
use Rattle.std.proofs.lemmas.Bool.{false≢true}
use Rattle.fz_store.specs.declared.model.Model.TheInside.{Inside}
use Rattle.fz_store.specs.declared.parts.DeclaredPoint.{DeclaredPoint}
use Rattle.fz_store.specs.declared.parts.DeclaredPoint.TheVariants as points
use Rattle.fz_store.specs.declared.parts.Variable.{Variable}
use Rattle.fz_store.specs.declared.parts.Array.{Array}
use Rattle.fz_store.specs.declared.parts.Posted as the_posted
use Rattle.fz_store.specs.Parts.{variable_view, no_variable, definition_at, posted_view, kept_row, elements_of, declared_point, definition_point, elements_point}
use Rattle.fz_store.specs.Kinds.{PostedFits}
use Rattle.fz_store.specs.Layout.{model_view, IsPlaced, IsLaidOut}

length-constraint_points : (n : ℕ) (ps : List Posted) → length (constraint_points n ps) ≡ length ps
length-constraint_points n [] = refl
length-constraint_points n (p ∷ ps) = ap suc (length-constraint_points (suc n) ps)

at_constraint : (n k : ℕ) (ps : List Posted) → slice_get (constraint_points n ps) k
    ≡ option_map (λ p. ConstraintPoint (k + n) p) (slice_get ps k)
at_constraint n k [] = refl
at_constraint n zero (p ∷ ps) = let same : n ≡ 0 + n = omega arith in ap (λ j. Some (ConstraintPoint j p)) same
at_constraint n (suc k) (p ∷ ps) =
    let same : k + suc n ≡ suc k + n = omega arith in at_constraint (suc n) k ps ∙ ap (λ j. option_map (λ q. ConstraintPoint j q) (slice_get ps k)) same

pub at_right : {A : Type 0} (xs ys : List A) (k : ℕ) → length xs ≤ k
    → slice_get (xs ++ ys) k ≡ slice_get ys (k - length xs)
at_right [] ys k le = let same : k ≡ k - 0 = omega arith in ap (slice_get ys) same
at_right (x ∷ xs) ys zero le = absurd (omega arith)
at_right (x ∷ xs) ys (suc k) le =
    let same : k - length xs ≡ suc k - suc (length xs) = omega arith in at_right xs ys k (omega arith) ∙ ap (slice_get ys) same

module _ (m : Inside) (laid : IsLaidOut m) where
  abbrev declared : List Point
  declared = map (declared_point m.variables.items m.arrays.items) m.points.items

  abbrev posted : List Point
  posted = constraint_points 1 (map (posted_view m.variables.items m.arrays.items m.store) m.constraints.items)

  points_are : points (model_view m) ≡ declared ++ posted
  points_are = ap (λ ps. ps ++ posted) laid.points

  length-declared : length declared ≡ length m.points.items
  length-declared = length-map m.points.items (declared_point m.variables.items m.arrays.items)

  pub how_many : length (points (model_view m)) ≡ length m.points.items + length m.constraints.items
  how_many =
      let counted : length posted ≡ length m.constraints.items = length-constraint_points 1 _ ∙ length-map m.constraints.items (posted_view m.variables.items m.arrays.items m.store) in
      ap length points_are ∙ length-append declared posted ∙ (λ i. length-declared i + counted i)

  -- the row that a constraint is stored with is the one that it fits
  pub row_in_place : (k : ℕ) (p : the_posted.Posted) → slice_get m.constraints.items k ≡ Some p
      → kept_row p ≡ row_of (posted_view m.variables.items m.arrays.items m.store p)
  row_in_place k p at =
      same_Some _ _
      (ap (option_map kept_row) (sym at) ∙ sym (slice_get-map kept_row m.constraints.items k) ∙ ap (λ rs. slice_get rs k) laid.rows
      ∙ slice_get-map row_of (map (posted_view m.variables.items m.arrays.items m.store) m.constraints.items) k
      ∙ ap (option_map row_of) (slice_get-map (posted_view m.variables.items m.arrays.items m.store) m.constraints.items k ∙ ap (option_map (posted_view m.variables.items m.arrays.items m.store)) at))

  -- each scalar in it has its kind
  pub kinds_in_place : (k : ℕ) (p : the_posted.Posted) → slice_get m.constraints.items k ≡ Some p
      → PostedFits (model_view m) (posted_view m.variables.items m.arrays.items m.store p)
  kinds_in_place k p at =
      at_place (PostedFits (model_view m)) (map (posted_view m.variables.items m.arrays.items m.store) m.constraints.items) k (posted_view m.variables.items m.arrays.items m.store p) laid.posted_kinds
      (slice_get-map (posted_view m.variables.items m.arrays.items m.store) m.constraints.items k ∙ ap (option_map (posted_view m.variables.items m.arrays.items m.store)) at)

  -- a point of a declaration
  pub point_declared : (k : ℕ) (p : DeclaredPoint) → slice_get m.points.items k ≡ Some p
      → k < length m.points.items → slice_get (points (model_view m)) k
      ≡ Some (declared_point m.variables.items m.arrays.items p)
  point_declared k p e lt =
      ap (λ ps. slice_get ps k) points_are ∙ get_front declared posted k (omega (arith, length-declared, lt))
      ∙ slice_get-map (declared_point m.variables.items m.arrays.items) m.points.items k ∙ ap (option_map (declared_point m.variables.items m.arrays.items)) e

  module _ (k : ℕ) where
    -- past n of them a constraint
    pub point_posted : (n : ℕ) (p : the_posted.Posted) → n ≡ length m.points.items → n ≤ k
        → slice_get m.constraints.items (k - n) ≡ Some p
        → slice_get (points (model_view m)) k ≡ Some (ConstraintPoint (k - n + 1) (posted_view m.variables.items m.arrays.items m.store p))
    point_posted n p count le e =
        let there : k - length declared ≡ k - n = ap (λ n. k - n) (length-declared ∙ sym count) in
        ap (λ ps. slice_get ps k) points_are ∙ at_right declared posted k (omega (arith, length-declared, count, le)) ∙ ap (slice_get posted) there
        ∙ at_constraint 1 (k - n) (map (posted_view m.variables.items m.arrays.items m.store) m.constraints.items)
        ∙ ap (option_map (λ q. ConstraintPoint (k - n + 1) q)) (slice_get-map (posted_view m.variables.items m.arrays.items m.store) m.constraints.items (k - n) ∙ ap (option_map (posted_view m.variables.items m.arrays.items m.store)) e)

    -- the point p that is read at k, where it has the form q
    module _ (p q : DeclaredPoint) (lt : k < length m.points.items) (read : p ≡ get_or m.points.items k p) (form : p ≡ q) where
      at_k : slice_get m.points.items k ≡ Some q
      at_k = slice_get_read m.points.items _ k p refl lt read ∙ ap Some form

      placed_at_k : IsPlaced m.variables.items m.arrays.items q
      placed_at_k = at_place (IsPlaced m.variables.items m.arrays.items) m.points.items k q laid.placed at_k

      there : slice_get (points (model_view m)) k
          ≡ Some (declared_point m.variables.items m.arrays.items q)
      there = point_declared k q at_k lt

    module _ (p : DeclaredPoint) (n : ℕ) (v : Variable) (lt : k < length m.points.items) (read : p ≡ get_or m.points.items k p) (found : v ≡ get_or m.variables.items n v) where
      pub domain_at : p ≡ points.Domain n
          → slice_get (points (model_view m)) k ≡ Some (DomainPoint (variable_view v) n)
      domain_at form =
          let at : slice_get m.variables.items n ≡ Some v = slice_get_read m.variables.items _ n v refl (placed_at_k p (points.Domain n) lt read form) found in
          there p (points.Domain n) lt read form ∙ ap (λ o. Some (DomainPoint (option_map_or variable_view o no_variable) n)) at

      defined : p ≡ points.Definition n → slice_get m.variables.items n ≡ Some v
      defined form = slice_get_read m.variables.items _ n v refl ((placed_at_k p (points.Definition n) lt read form).0) found

      pub definition_is : (t : Term) → p ≡ points.Definition n → v.definition ≡ Some t
          → slice_get (points (model_view m)) k ≡ Some (DefinitionPoint (variable_view v) n t)
      definition_is t form by =
          there p (points.Definition n) lt read form
          ∙ ap (λ o. Some (definition_point m.variables.items n (option_map_or (λ (w : Variable). w.definition) o None))) (defined form)
          ∙ ap (λ o. Some (definition_point m.variables.items n o)) by
          ∙ ap (λ o. Some (DefinitionPoint (option_map_or variable_view o no_variable) n t)) (defined form)

      -- a point of a definition has one
      pub no_definition : p ≡ points.Definition n → v.definition ≡ None → ⊥
      no_definition form none =
          let is_none : definition_at m.variables.items n ≡ None = ap (λ o. option_map_or (λ (w : Variable). w.definition) o None) (defined form) ∙ none in
          false≢true (sym (ap is_some is_none) ∙ (placed_at_k p (points.Definition n) lt read form).1)

    pub elements_at : (p : DeclaredPoint) (n : ℕ) (x : Array) → k < length m.points.items
        → p ≡ get_or m.points.items k p → x ≡ get_or m.arrays.items n x → p ≡ points.Elements n
        → slice_get (points (model_view m)) k ≡ Some (ArrayPoint x.name.now x.domain (elements_of x))
    elements_at p n x lt read found form =
        let at : slice_get m.arrays.items n ≡ Some x = slice_get_read m.arrays.items _ n x refl (placed_at_k p (points.Elements n) lt read form) found in
        there p (points.Elements n) lt read form ∙ ap (λ o. Some (option_map_or elements_point o (ArrayPoint [] All []))) at

-- what `point_parts` cites
pub ruleset point_at = (how_many, domain_at, definition_is, no_definition, elements_at)
