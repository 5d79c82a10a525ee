-- Whether all points hold: those of the declarations, then the constraints.
use Rattle.std.proofs.Common.{◌≡◌, ℕ, suc, ◌+◌, ◌≤◌, Bool, true, false, ◌&&◌, List, [], ◌∷◌, map, flat_map, length, take, Some, option_map, slice_get, refl, sym, ap, ◌∙◌, arith, length-append}
use Rattle.std.specs.List.{list_all}
use Rattle.std.proofs.lemmas.List.{length-map, take_all, take_at}
use Rattle.std.proofs.lemmas.List.Folds.{list_all-append, list_all_at, list_all_more}
use Rattle.std.proofs.lemmas.Option.{get_or_from_slice_get, same_Some, slice_get-map, slice_get_within}
use Rattle.fz_builtins.specs.of_meaning.Meaning.{Model, Partial, Point, Posted, constraint_points, declared_points, numbered, points, row_of}
use Rattle.fz_builtins.proofs.of_meaning.Values.{and_both}
use Rattle.fz_builtins.specs.of_store.declared.parts.Posted as the_posted
use Rattle.fz_builtins.specs.of_store.declared.point.Constraints.{Constraints}
use Rattle.fz_builtins.specs.of_store.Parts.{kept_row, posted_view}
use Rattle.fz_model.specs.Holding.{point_holds, posted_holds}

-- ---- one after another

module _ {A : Type 0} (f : A → Bool) where
  pub all_next : (xs : List A) (i : ℕ) (x : A) → slice_get xs i ≡ Some x
      → list_all f (take i xs) ≡ true → f x ≡ true → list_all f (take (i + 1) xs) ≡ true
  all_next xs i x at h e =
      list_all_more f xs i x (slice_get_within xs i x at) ∙ and_both (list_all f (take i xs)) _ h (ap f (get_or_from_slice_get xs i x x at) ∙ e)

  pub all_stops : (xs : List A) (i : ℕ) (x : A) → slice_get xs i ≡ Some x → f x ≡ false
      → false ≡ list_all f xs
  all_stops xs i x at e = sym (list_all_at f xs i x (slice_get_within xs i x at) (ap f (get_or_from_slice_get xs i x x at) ∙ e))

  pub all_seen : (xs : List A) (n : ℕ) → length xs ≤ n → list_all f (take n xs) ≡ true
      → true ≡ list_all f xs
  all_seen xs n le h = sym h ∙ ap (list_all f) (take_all n xs le)

pub same_length : {A B C : Type 0} (f : A → C) (g : B → C) (xs : List A) (ys : List B)
    → map f xs ≡ map g ys → length xs ≡ length ys
same_length f g xs ys e = sym (length-map xs f) ∙ ap length e ∙ length-map ys g

-- ---- all points

length-constraint_points : (n : ℕ) (ps : List Posted) → length (constraint_points n ps) ≡ length ps
length-constraint_points n [] = refl
length-constraint_points n (p ∷ ps) = ap suc (length-constraint_points (suc n) ps)

module _ (m : Model) where
  abbrev declared : List Point
  declared = flat_map declared_points (numbered m)

  counted : length (points m) ≡ length declared + length m.constraints
  counted = length-append declared (constraint_points 1 m.constraints) ∙ ap (λ n. length declared + n) (length-constraint_points 1 m.constraints)

  pub enough : length m.constraints ≤ length (points m)
  enough = omega (arith, counted)

  module _ (before : ℕ) (count : before + length m.constraints ≡ length (points m)) where
    -- the first points are those of the declarations
    pub declared_first : take before (points m) ≡ flat_map declared_points (numbered m)
    declared_first = take_at declared (constraint_points 1 m.constraints) before (omega (arith, counted, count))

-- ---- the constraints

module _ (K : Partial) where
  posted_hold : (n : ℕ) (ps : List Posted)
      → list_all (point_holds K) (constraint_points n ps) ≡ list_all (posted_holds K) ps
  posted_hold n [] = refl
  posted_hold n (p ∷ ps) = ap (λ b. posted_holds K p && b) (posted_hold (suc n) ps)

  -- first the declarations, then the constraints
  pub hold_together : (m : Model) → list_all (point_holds K) (points m)
      ≡ (list_all (point_holds K) (declared m) && list_all (posted_holds K) m.constraints)
  hold_together m =
      list_all-append (point_holds K) (declared m) (constraint_points 1 m.constraints)
      ∙ ap (λ b. list_all (point_holds K) (declared m) && b) (posted_hold 1 m.constraints)

-- a constraint in its place, and the row that it is stored with
module _ (m : Model) (all : Constraints) (k : ℕ) (p : the_posted.Posted)
    (at : slice_get all.posted.now k ≡ Some p) where
  abbrev view : the_posted.Posted → Posted
  view = posted_view all.variables.now all.arrays.now all.store.now

  module _ (are : map view all.posted.now ≡ m.constraints) where
    pub stands : slice_get m.constraints k ≡ Some (view p)
    stands =
        ap (λ ps. slice_get ps k) (sym are) ∙ slice_get-map view all.posted.now k
        ∙ ap (option_map view) at

    pub row_there : map kept_row all.posted.now ≡ map row_of m.constraints
        → kept_row p ≡ row_of (view p)
    row_there rows =
        same_Some _ _
        (ap (option_map kept_row) (sym at) ∙ sym (slice_get-map kept_row all.posted.now k)
        ∙ ap (λ rs. slice_get rs k) rows ∙ slice_get-map row_of m.constraints k
        ∙ ap (option_map row_of) stands)
