-- What was read is laid out as the model of the tree.
use Rattle.std.proofs.Common.{◌≡◌, List, [], ◌∷◌, ◌++◌, map, Vec, Global, None, Some, refl, sym, ap, subst, ◌∙◌, flat_map, append_assoc}
use Rattle.std.specs.List.{AllByRecursion}
use Rattle.std.proofs.lemmas.List.{append-nil}
use Rattle.fz_store.specs.of_meaning.declared.error.ModelError.{ModelError}
use Rattle.fz_store.specs.of_meaning.Located.{Decl, LocatedTree}
use Rattle.fz_store.specs.of_meaning.Meaning.{declared_points, numbered_from, place_named, variable_of, first_some, find_name, row_of}
use Rattle.fz_store.specs.of_meaning.Names.{kinds, places, number_of, place_of_declared, declared_of, posted_of, aim_of, model_of, decls_fault, constraint_fault, goal_fault, first_fault}
use Rattle.fz_store.proofs.of_meaning.NamedKinds.{name_fits}
use Rattle.fz_store.proofs.of_meaning.Scope.{literal_is_of, variables_are}
use Rattle.fz_store.specs.Kinds.{PlaceFits, PostedFits}
use Rattle.fz_store.specs.of_meaning.View.{Tells}
use Rattle.fz_store.proofs.of_meaning.KnownNames.{next_number, number_here}
use Rattle.fz_store.proofs.of_meaning.Names.{AreNew, are_new, declared_name, numbered_after, numbered_is, place_named_is}
use Rattle.fz_store.specs.declared.model.Model.TheInside.{Inside}
use Rattle.fz_store.specs.declared.parts.Goal as the_goal
use Rattle.fz_store.specs.declared.parts.Posted as the_posted
use Rattle.fz_store.specs.declared.scope.Scope.{Scope}
use Rattle.fz_store.specs.declared.store.Store.{Store}
use Rattle.fz_store.specs.Parts.{posted_view, kept_row, goal_view, declared_point}
use Rattle.fz_store.specs.Layout.{model_view, named_place, IsLaidOut, IsPlaced}
use Rattle.fz_data.specs.Scope.{constraint_fault_in, kinds_in, place_in}
use Rattle.fz_data.specs.Posting.{Posts}
use Rattle.fz_data.specs.Stands.{Declares, StandsFor, entry_view, is_kept, declared_pair}
use Rattle.fz_store.proofs.of_meaning.ScanSteps.{in_constraints, in_goal, nowhere}
use Rattle.fz_data.proofs.Grown.{longer_none}
use Rattle.fz_data.proofs.OwnKinds.{HasKind, HasOwnKind, own_kinds, posted_fit}
use Rattle.fz_data.proofs.Tells.{tells_further}
use Rattle.fz_data.proofs.Knows.{knows, places_now, same_kinds}

-- ---- names

named_pairs : (all before ds : List Decl) → before ++ ds ≡ all → AreNew before ds
    → map named_place (numbered_after all before ds) ≡ map (declared_pair all) ds
named_pairs all before [] e new = refl
named_pairs all before (d ∷ ds) e new =
    let place : place_named (next_number before) (declared_of all d) ≡ place_of_declared all d =
    place_named_is (next_number before) all d (λ is. subst (λ zs. number_of zs d.name.text ≡ next_number before) e (number_here before d ds new.0 is)) in
    let later : map named_place (numbered_after all (before ++ d ∷ []) ds) ≡ map (declared_pair all) ds = named_pairs all (before ++ d ∷ []) ds (append_assoc before (d ∷ []) ds ∙ e) new.1 in
    λ i. (declared_name all d i, place i) ∷ later i

-- ---- the scope by itself

module _ (all : List Decl) (s : Scope) (st : StandsFor all all s) where
  declared_now : map (entry_view s.variables.items s.arrays.items) s.names
      ≡ map (declared_of all) all
  declared_now = (λ i. map (entry_view (sym (append-nil s.variables.items) i) (sym (append-nil s.arrays.items) i)) s.names) ∙ st.declared [] []

  points_now : map (declared_point s.variables.items s.arrays.items) s.points.items
      ≡ flat_map declared_points (numbered_from 0 (map (declared_of all) all))
  points_now = (λ i. map (declared_point (sym (append-nil s.variables.items) i) (sym (append-nil s.arrays.items) i)) s.points.items) ∙ st.points [] []

  placed_now : AllByRecursion (IsPlaced s.variables.items s.arrays.items) s.points.items
  placed_now =
      subst (λ us. AllByRecursion (IsPlaced us s.arrays.items) s.points.items) (append-nil s.variables.items)
      (subst (λ zs. AllByRecursion (IsPlaced (s.variables.items ++ []) zs) s.points.items) (append-nil s.arrays.items) (st.placed [] []))

  kept_now : AllByRecursion (is_kept s.arrays.items) s.names
  kept_now = subst (λ zs. AllByRecursion (is_kept zs) s.names) (append-nil s.arrays.items) (st.kept [])

-- ---- the whole

module _ (t : LocatedTree) (s : Scope) (held : Store) (cs : Vec the_posted.Posted Global) (g : the_goal.Goal) (st : StandsFor t.decls t.decls s) (clean : decls_fault [] t.decls ≡ None)
    (posted : map (posted_view s.variables.items s.arrays.items held) cs.items
    ≡ map (posted_of (place_in s)) t.constraints)
    (aim : goal_view g ≡ aim_of (place_in s) t.solve.goal) where
  abbrev pub fields : Inside
  fields = record { names = s.names; variables = s.variables; arrays = s.arrays; points = s.points; constraints = cs; goal = g; store = held }

  new : AreNew [] t.decls
  new = are_new [] t.decls clean

  same : place_in s ≡ places t.decls
  same = λ i x. knows t.decls t.decls s st x i

  pub model_is : model_view fields ≡ model_of t
  model_is = λ i. record { declared = declared_now t.decls s st i; constraints = (posted ∙ ap (λ at. map (posted_of at) t.constraints) same) i; aim = (aim ∙ ap (λ at. aim_of at t.solve.goal) same) i }

  own : AllByRecursion HasOwnKind t.decls
  own = own_kinds t.decls s.variables.items s.arrays.items s.names t.decls (places_now t.decls t.decls s st)

  pub laid_out : map kept_row cs.items ≡ map row_of (map (posted_of (place_in s)) t.constraints)
      → IsLaidOut fields
  laid_out rows = record {
    variables = ap (flat_map variable_of) (declared_now t.decls s st) ∙ variables_are t.decls t.decls ∙ sym st.variables;
    places = ap (λ qs. map named_place (numbered_from 0 qs)) (declared_now t.decls s st) ∙ ap (map named_place) (numbered_is t) ∙ named_pairs t.decls [] t.decls refl new ∙ sym (places_now t.decls t.decls s st);
    points = ap (λ qs. flat_map declared_points (numbered_from 0 qs)) (declared_now t.decls s st) ∙ sym (points_now t.decls s st);
    placed = placed_now t.decls s st;
    kept = kept_now t.decls s st;
    rows = rows ∙ ap (map row_of) (sym posted);
    kinds = λ x p e. subst (λ m. PlaceFits m p) (sym model_is) (name_fits HasKind t clean literal_is_of own x p (subst (λ m. find_name m x ≡ Some p) model_is e));
    posted_kinds = subst (λ m. AllByRecursion (PostedFits m) m.constraints) (sym model_is) (posted_fit t clean own t.constraints);
  }

-- ---- the faults behind the declarations

module _ (t : LocatedTree) (s : Scope) (st : StandsFor t.decls t.decls s) (clean : decls_fault [] t.decls ≡ None) where
  constraints_same : first_some (constraint_fault_in s) t.constraints
      ≡ first_some (constraint_fault (kinds t.decls)) t.constraints
  constraints_same = ap (λ at. first_some (constraint_fault at) t.constraints) (same_kinds t.decls t.decls s st)

  goal_same : goal_fault (kinds_in s) t.solve.goal ≡ goal_fault (kinds t.decls) t.solve.goal
  goal_same = ap (λ at. goal_fault at t.solve.goal) (same_kinds t.decls t.decls s st)

  pub told_in_constraints : (e : ModelError)
      → Tells e (first_some (constraint_fault_in s) t.constraints) → Tells e (first_fault t)
  told_in_constraints e h = tells_further e _ (first_fault t) (λ y here. in_constraints t y clean (sym constraints_same ∙ here)) h

  module _ (known : first_some (constraint_fault_in s) t.constraints ≡ None) where
    pub told_in_goal : (e : ModelError)
        → Tells e (goal_fault (kinds_in s) t.solve.goal) → Tells e (first_fault t)
    told_in_goal e h = tells_further e _ (first_fault t) (λ y here. in_goal t y clean (sym constraints_same ∙ known) (sym goal_same ∙ here)) h

    pub none_anywhere : goal_fault (kinds_in s) t.solve.goal ≡ None
        → first_fault t ≡ None
    none_anywhere sound = nowhere t clean (sym constraints_same ∙ known) (sym goal_same ∙ sound)

-- ---- what was declared and posted, and the goal behind it

module _ (t : LocatedTree) (s : Scope) (declares : Declares t.decls s) where
  pub all_stand : StandsFor t.decls t.decls s
  all_stand = subst (λ all. StandsFor all t.decls s) (append-nil t.decls) (declares.stands [])

  module _ (held : Store) (cs : Vec the_posted.Posted Global) (posts : Posts s t.constraints held cs.items) where
    pub goal_told : (e : ModelError)
        → Tells e (goal_fault (kinds_in s) t.solve.goal) → Tells e (first_fault t)
    goal_told = told_in_goal t s all_stand declares.clean posts.clean

    module _ (g : the_goal.Goal) (sound : goal_fault (kinds_in s) t.solve.goal ≡ None) (aim : goal_view g ≡ aim_of (place_in s) t.solve.goal) where
      pub posted_now : map (posted_view s.variables.items s.arrays.items held) cs.items
          ≡ map (posted_of (place_in s)) t.constraints
      posted_now = posts.views held (longer_none held)

      pub all_laid_out : IsLaidOut (fields t s held cs g all_stand declares.clean posted_now aim)
      all_laid_out = laid_out t s held cs g all_stand declares.clean posted_now aim posts.rows

      pub loaded_model : model_view (fields t s held cs g all_stand declares.clean posted_now aim) ≡ model_of t
      loaded_model = model_is t s held cs g all_stand declares.clean posted_now aim

      pub no_fault_told : first_fault t ≡ None
      no_fault_told = none_anywhere t s all_stand declares.clean posts.clean sound
