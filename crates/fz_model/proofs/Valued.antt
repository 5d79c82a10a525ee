-- Where every variable has a value of its kind inside its domain, each constraint is ready, as its
-- scalars are of the kinds that its row asks for; and each point of a variable's domain holds.
use Rattle.std.proofs.Common.{◌≡◌, ◌≢◌, ◌<◌, ◌≤◌, ◌+◌, get_or, drop, ℕ, zero, suc, Bool, true, false, ◌&&◌, List, [], ◌∷◌, ◌++◌, map, flat_map, length, Option, Some, None, option_map, slice_get, refl, sym, ap, subst, ◌∙◌, arith, append_assoc, length-append}
use Rattle.std.specs.List.{AllByRecursion, list_all}
use Rattle.std.specs.Option.{option_map_or}
use Rattle.std.proofs.Math.Bool.{and-false, and-true}
use Rattle.std.proofs.lemmas.List.{at_drop_more, at_drop_all}
use Rattle.fz_builtins.specs.of_meaning.of_base.declared.value.Value.{Value}
use Rattle.fz_builtins.specs.of_meaning.declared.kind.Kind.{Kind}
use Rattle.fz_builtins.specs.of_meaning.declared.kind.Kind.TheVariants.{Int as IntKind, Bool as BoolKind, Set as SetKind}
use Rattle.fz_builtins.specs.of_meaning.declared.term.Term.{Term}
use Rattle.fz_builtins.specs.of_meaning.declared.term.Term.TheVariants.{Var, Fixed}
use Rattle.fz_builtins.specs.of_meaning.declared.term.Domain.{Domain}
use Rattle.fz_builtins.specs.of_meaning.declared.term.Domain.TheVariants.{All, Within, Among}
use Rattle.fz_builtins.specs.of_meaning.Relations.{kind_of, same_kind}
use Rattle.fz_builtins.specs.of_meaning.Builtins.{Shape}
use Rattle.fz_builtins.specs.of_meaning.Builtins.Shape.{ScalarOf, ArrayOf}
use Rattle.fz_builtins.specs.of_meaning.Meaning as meaning
use Rattle.fz_builtins.specs.of_meaning.Meaning.{Argument, Declared, Model, Partial, Place, Point, Posted, array_points, declared_points, definition_points, has_shape, have_shapes, inside, is_term_of, terms_at, terms_in, numbered, numbered_from, value_at, variable_of, variables_of}
use Rattle.fz_builtins.specs.of_meaning.States.{judged, judged_by}
use Rattle.fz_builtins.specs.of_meaning.Meaning.Declared.{Parameter, ScalarVariable, ArrayOfVariables}
use Rattle.fz_builtins.specs.of_meaning.Meaning.Point.{DomainPoint, DefinitionPoint, ArrayPoint}
use Rattle.fz_builtins.specs.of_meaning.Meaning.Place.{Scalar, Array}
use Rattle.fz_builtins.specs.of_meaning.Meaning.Argument.{One, ListOf}
use Rattle.fz_builtins.proofs.of_meaning.Lists.{all_append}
use Rattle.fz_builtins.proofs.of_meaning.Scope.{same_kind_is}
use Rattle.fz_builtins.proofs.of_meaning.Values.{no, and_first, and_second}
use Rattle.fz_builtins.specs.of_store.declared.parts.Variable.{Variable}
use Rattle.fz_builtins.specs.of_store.Kinds.{TermFits, PlaceFits, ArgumentFits, PostedFits}
use Rattle.fz_builtins.specs.of_store.Parts.{variable_view}
use Rattle.fz_builtins.specs.of_kernel.Given.{is_read, argument_is_read, are_read}
use Rattle.fz_builtins.proofs.of_kernel.Ready.{slots_are_terms}
use Rattle.fz_model.specs.Holding.{is_held, point_holds}
use Rattle.fz_model.specs.Whole.{IsReady, is_domain, kind_in, lies_inside, lie_inside}
use Rattle.fz_model.proofs.ConstraintStates.{row_fits}

-- ---- what the overview of a model says of its variables

pub seen_inside : (m : Model) (K : Partial) (xs : List meaning.Variable) (L : Partial) (b : Bool)
    → xs ≡ variables_of m → L ≡ K → b ≡ lie_inside xs L → b ≡ true
    → lie_inside (variables_of m) K ≡ true
seen_inside m K xs L b same same' is seen = sym (is ∙ (λ i. lie_inside (same i) (same' i))) ∙ seen

-- ---- a variable's value

-- there is a value, and it is of the kind
abbrev is_of : Kind → Option Value → Bool
is_of k o = option_map_or (λ v. same_kind (kind_of v) k) o false

own_kind : (x : meaning.Variable) (o : Option Value) → lies_inside x o ≡ true
    → is_of x.kind o ≡ true
own_kind x None h = no h
own_kind x (Some v) h = and_first (same_kind (kind_of v) x.kind) _ h

its_value : (xs : List meaning.Variable) (K : Partial) → lie_inside xs K ≡ true → (n : ℕ) (k : Kind)
    → option_map (λ x. x.kind) (slice_get xs n) ≡ Some k → is_of k (value_at K n) ≡ true
its_value [] K h n k e = cc
its_value (x ∷ xs) [] h n k e = no h
its_value (x ∷ xs) (o ∷ K) h zero k e = let same : x.kind ≡ k = cc in subst (λ j. is_of j o ≡ true) same (own_kind x o (and_first (lies_inside x o) _ h))
its_value (x ∷ xs) (o ∷ K) h (suc n) k e = its_value xs K (and_second (lies_inside x o) _ h) n k e

pub same_as_itself : (k : Kind) → same_kind k k ≡ true
same_as_itself IntKind = refl
same_as_itself BoolKind = refl
same_as_itself SetKind = refl

-- ---- the scalars of an argument have the kind that is asked of them

-- what is asked of an argument that has the shape is asked of each of its scalars
pub shaped : (L : Partial) (s : Shape) (x : Argument) → has_shape s x ≡ true
    → argument_is_read L s x ≡ list_all (is_read L (kind_in s)) (map Some (terms_in x))
shaped L (ScalarOf k) (One (Scalar j t)) h = sym (and-true (is_read L k (Some t)))
shaped L (ScalarOf k) (One (Array name j ts)) h = no h
shaped L (ScalarOf k) (ListOf ps) h = no h
shaped L (ArrayOf k) x h = ap (list_all (is_read L k)) (slots_are_terms k x h)

module _ (m : Model) where
  places_of_kind : (k : Kind) (ps : List Place) → list_all (is_term_of k) ps ≡ true
      → AllByRecursion (PlaceFits m) ps → AllByRecursion (TermFits m k) (flat_map terms_at ps)
  places_of_kind k [] h fits = tt
  places_of_kind k (Scalar j t ∷ ps) h fits =
      (subst (λ i. TermFits m i t) (same_kind_is j k (and_first (same_kind j k) _ h)) fits.0, places_of_kind k ps (and_second (same_kind j k) _ h) fits.1)
  places_of_kind k (Array x j ts ∷ ps) h fits = no h

  pub terms_of_kind : (s : Shape) (x : Argument) → has_shape s x ≡ true → ArgumentFits m x
      → AllByRecursion (TermFits m (kind_in s)) (terms_in x)
  terms_of_kind (ScalarOf k) (One (Scalar j t)) h fits = (subst (λ i. TermFits m i t) (same_kind_is j k h) fits, tt)
  terms_of_kind (ScalarOf k) (One (Array x j ts)) h fits = no h
  terms_of_kind (ScalarOf k) (ListOf ps) h fits = no h
  terms_of_kind (ArrayOf k) (One (Scalar j t)) h fits = no h
  terms_of_kind (ArrayOf k) (One (Array x j ts)) h fits = subst (λ i. AllByRecursion (TermFits m i) ts) (same_kind_is j k h) fits
  terms_of_kind (ArrayOf k) (ListOf ps) h fits = places_of_kind k ps h fits

-- ---- a constraint's scalars

module _ (m : Model) (K : Partial) (within : lie_inside (variables_of m) K ≡ true) where
  term_read : (k : Kind) (t : Term) → TermFits m k t → is_read K k (Some t) ≡ true
  term_read k (Var n) e = its_value (variables_of m) K within n k e
  term_read k (Fixed v) e = subst (λ j. same_kind (kind_of v) j ≡ true) e (same_as_itself (kind_of v))

  terms_read : (k : Kind) (ts : List Term) → AllByRecursion (TermFits m k) ts
      → list_all (is_read K k) (map Some ts) ≡ true
  terms_read k [] h = refl
  terms_read k (t ∷ ts) h = λ i. term_read k t h.0 i && terms_read k ts h.1 i

  argument_read : (s : Shape) (x : Argument) → has_shape s x ≡ true → ArgumentFits m x
      → argument_is_read K s x ≡ true
  argument_read s x h fits = shaped K s x h ∙ terms_read (kind_in s) (terms_in x) (terms_of_kind m s x h fits)

  arguments_read : (ss : List Shape) (xs : List Argument) → have_shapes ss xs ≡ true
      → AllByRecursion (ArgumentFits m) xs → are_read K ss xs ≡ true
  arguments_read [] [] shaped h = refl
  arguments_read [] (x ∷ xs) shaped h = no shaped
  arguments_read (s ∷ ss) [] shaped h = no shaped
  arguments_read (s ∷ ss) (x ∷ xs) shaped h =
      let here = argument_read s x (and_first (has_shape s x) _ shaped) h.0 in
      let rest = arguments_read ss xs (and_second (has_shape s x) _ shaped) h.1 in
      λ i. here i && rest i

  pub posted_ready : (p : Posted) → PostedFits m p → IsReady K p
  posted_ready p h r e = arguments_read r.shapes p.arguments (row_fits p r e) h

-- ---- the points of domains

abbrev pub HoldsIfDomain : Partial → Point → Type 0
HoldsIfDomain K p = is_domain p ≡ true → point_holds K p ≡ true

value_between : (before after : Partial) (o : Option Value)
    → value_at (before ++ o ∷ after) (length before) ≡ o
value_between [] after o = refl
value_between (p ∷ before) after o = value_between before after o

own_domain : (x : meaning.Variable) (o : Option Value) → lies_inside x o ≡ true
    → is_held (judged_by (inside x.domain) o) ≡ true
own_domain x None h = no h
own_domain x (Some v) h = ap (λ b. is_held (judged b)) (and_second (same_kind (kind_of v) x.kind) _ h)

definition_is_other : (K : Partial) (x : meaning.Variable) (n : ℕ) (o : Option Term)
    → AllByRecursion (HoldsIfDomain K) (definition_points x n o)
definition_is_other K x n None = tt
definition_is_other K x n (Some e) = (λ h. no h, tt)

elements_are_others : (K : Partial) (name : List ℕ) (d : Domain) (ts : List Term)
    → AllByRecursion (HoldsIfDomain K) (array_points name d ts)
elements_are_others K name All ts = tt
elements_are_others K name (Within lo hi) ts = (λ h. no h, tt)
elements_are_others K name (Among s) ts = (λ h. no h, tt)

declared_hold : (before : Partial) (n : ℕ) (ds : List Declared) (K : Partial) → length before ≡ n
    → lie_inside (flat_map variable_of ds) K ≡ true
    → AllByRecursion (HoldsIfDomain (before ++ K)) (flat_map declared_points (numbered_from n ds))
declared_hold before n [] K count h = tt
declared_hold before n (Parameter name p ∷ ds) K count h = declared_hold before n ds K count h
declared_hold before n (ArrayOfVariables name k d ts ∷ ds) K count h =
    all_append (HoldsIfDomain (before ++ K)) (array_points name d ts) (flat_map declared_points (numbered_from n ds)) (elements_are_others (before ++ K) name d ts)
    (declared_hold before n ds K count h)
declared_hold before n (ScalarVariable x e ∷ ds) [] count h = no h
declared_hold before n (ScalarVariable x e ∷ ds) (o ∷ K) count h =
    let all : Partial = before ++ o ∷ K in
    let at : value_at all n ≡ o = ap (value_at all) (sym count) ∙ value_between before K o in
    let here : point_holds all (DomainPoint x n) ≡ true = ap (λ v. is_held (judged_by (inside x.domain) v)) at ∙ own_domain x o (and_first (lies_inside x o) _ h) in
    let longer : length (before ++ o ∷ []) ≡ suc n = length-append before (o ∷ []) ∙ omega arith in
    let others = declared_hold (before ++ o ∷ []) (suc n) ds K longer (and_second (lies_inside x o) _ h) in
    let rest = subst (λ L. AllByRecursion (HoldsIfDomain L) (flat_map declared_points (numbered_from (suc n) ds))) (append_assoc before (o ∷ []) K) others in
    (λ _. here, all_append (HoldsIfDomain all) (definition_points x n e) (flat_map declared_points (numbered_from (suc n) ds)) (definition_is_other all x n e) rest)

pub domains_hold : (m : Model) (K : Partial) → lie_inside (variables_of m) K ≡ true
    → AllByRecursion (HoldsIfDomain K) (flat_map declared_points (numbered m))
domains_hold m K within = declared_hold [] 0 m.declared K refl within

-- ---- variables and values side by side

abbrev has_own : Variable → Option Value → Bool
has_own v o = lies_inside (variable_view v) o

abbrev pub side_by_side : List Variable → Partial → Bool
side_by_side vs K = lie_inside (map variable_view vs) K

pub not_as_many : (vs : List Variable) (K : Partial) → length vs ≢ length K
    → false ≡ side_by_side vs K
not_as_many [] [] h = absurd (h refl)
not_as_many [] (o ∷ K) h = refl
not_as_many (v ∷ vs) [] h = refl
not_as_many (v ∷ vs) (o ∷ K) h = sym (and-false (has_own v o)) ∙ ap (λ b. has_own v o && b) (not_as_many vs K (λ e. h (ap suc e)))

module _ (vs : List Variable) (K : Partial) (k : ℕ) where
  module _ (v : Variable) (o : Option Value) (lt : k < length vs) (lt' : k < length K) (at : v ≡ get_or vs k v) (at' : o ≡ get_or K k o)
      (left : side_by_side vs K ≡ side_by_side (drop k vs) (drop k K)) (b : Bool) (is : b ≡ has_own v o) where
    inside_next : side_by_side vs K
        ≡ (has_own v o && side_by_side (drop (k + 1) vs) (drop (k + 1) K))
    inside_next =
        left ∙ at_drop_more (λ zs. side_by_side zs (drop k K)) vs k v lt ∙ at_drop_more (λ zs. side_by_side (get_or vs k v ∷ drop (k + 1) vs) zs) K k o lt'
        ∙ ap (λ z. side_by_side (z ∷ drop (k + 1) vs) (get_or K k o ∷ drop (k + 1) K)) (sym at) ∙ ap (λ z. side_by_side (v ∷ drop (k + 1) vs) (z ∷ drop (k + 1) K)) (sym at')

    pub inside_not : b ≡ false → false ≡ side_by_side vs K
    inside_not e = sym (inside_next ∙ ap (λ c. c && side_by_side (drop (k + 1) vs) (drop (k + 1) K)) (sym is ∙ e))

    pub inside_more : b ≡ true → side_by_side vs K ≡ side_by_side (drop (k + 1) vs) (drop (k + 1) K)
    inside_more e = inside_next ∙ ap (λ c. c && side_by_side (drop (k + 1) vs) (drop (k + 1) K)) (sym is ∙ e)

  pub inside_all : length vs ≡ length K → length K ≤ k
      → side_by_side vs K ≡ side_by_side (drop k vs) (drop k K) → true ≡ side_by_side vs K
  inside_all n e left = sym (left ∙ at_drop_all (λ zs. side_by_side zs (drop k K)) vs k (omega arith) ∙ at_drop_all (λ zs. side_by_side [] zs) K k (omega arith))
