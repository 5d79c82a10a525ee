-- What the readiness of arguments says of their values, where the arguments are of the kinds asked
-- for.
use Rattle.std.proofs.Common.{◌≡◌, ℕ, suc, true, false, ◌&&◌, List, [], ◌∷◌, map, flat_map, Option, Some, None, option_map, refl, sym, ap, ◌∙◌}
use Rattle.std.proofs.Math.Bool.{and-true}
use Rattle.std.specs.Prelude.{is_some}
use Rattle.std.specs.List.{list_all}
use Rattle.std.specs.Option.{option_map_or}
use Rattle.fz_store.specs.of_meaning.of_base.declared.value.Value.{Value}
use Rattle.fz_store.specs.of_meaning.of_base.declared.value.Value.TheVariants.{Int, Bool as Truth, Set}
use Rattle.fz_store.specs.of_meaning.declared.kind.Kind.{Kind}
use Rattle.fz_store.specs.of_meaning.declared.kind.Kind.TheVariants.{Int as IntKind, Bool as BoolKind, Set as SetKind}
use Rattle.fz_store.specs.of_meaning.declared.term.Term.{Term}
use Rattle.fz_store.specs.of_meaning.Relations.{kind_of, same_kind, option_cons}
use Rattle.fz_store.specs.of_meaning.Builtins.{Shape, ArgValue, Test, Of, Plain, plain, plain_list, read, passes}
use Rattle.fz_store.specs.of_meaning.Builtins.Shape.{ScalarOf, ArrayOf}
use Rattle.fz_store.specs.of_meaning.Builtins.ArgValue.{OneValue, ManyValues}
use Rattle.fz_store.specs.of_meaning.Meaning.{Argument, Place, Partial, value, values, terms_at, terms_in, argument_value, argument_values, has_shape, have_shapes, is_term_of}
use Rattle.fz_store.specs.of_meaning.Meaning.Place.{Scalar, Array}
use Rattle.fz_store.specs.of_meaning.Meaning.Argument.{One, ListOf}
use Rattle.fz_store.proofs.of_meaning.Values.{no, no', and_first, and_second}
use Rattle.fz_store.proofs.of_meaning.Steps.{option_cons_parts, map_some}
use Rattle.fz_kernel.specs.Given.{slot_of, slot_in, slots_in, value_of, int_in, bool_in, set_in, int_of, bool_of, set_of_slot, given, given_from, given_values, is_read, argument_is_read, are_read, has_value, is_given, are_given}
use Rattle.fz_kernel.proofs.Kept.{map-map}

-- ---- an argument that has the shape of an array is a list of scalars

scalars_only : (k : Kind) (ps : List Place) → list_all (is_term_of k) ps ≡ true
    → map slot_of ps ≡ map Some (flat_map terms_at ps)
scalars_only k [] h = refl
scalars_only k (Scalar j t ∷ ps) h = ap (λ ss. Some t ∷ ss) (scalars_only k ps (and_second (same_kind j k) _ h))
scalars_only k (Array x j ts ∷ ps) h = no h

pub slots_are_terms : (k : Kind) (x : Argument) → has_shape (ArrayOf k) x ≡ true
    → slots_in x ≡ map Some (terms_in x)
slots_are_terms k (One (Scalar j t)) h = no h
slots_are_terms k (One (Array x j ts)) h = refl
slots_are_terms k (ListOf ps) h = scalars_only k ps h

-- its value is that of its elements
array_value : (K : Partial) (k : Kind) (x : Argument) → has_shape (ArrayOf k) x ≡ true
    → argument_value K x ≡ option_map ManyValues (values K (terms_in x))
array_value K k (One (Scalar j t)) h = no h
array_value K k (One (Array x j ts)) h = refl
array_value K k (ListOf ps) h = refl

-- and an argument that has the shape of a scalar is one
scalar_value : (K : Partial) (k : Kind) (x : Argument) → has_shape (ScalarOf k) x ≡ true
    → argument_value K x ≡ option_map OneValue (value_of K (slot_in x))
scalar_value K k (One (Scalar j t)) h = refl
scalar_value K k (One (Array x j ts)) h = no h
scalar_value K k (ListOf ps) h = no h

-- ---- a value of the kind is what it is read as

-- the value that a scalar of the kind is read as
abbrev read_as : Kind → Option Value → Value
read_as IntKind o = Int (int_in o)
read_as BoolKind o = Truth (bool_in o)
read_as SetKind o = Set (set_in o)

read_value : (k : Kind) (o : Option Value)
    → option_map_or (λ v. same_kind (kind_of v) k) o false ≡ true → o ≡ Some (read_as k o)
read_value k None h = no h
read_value IntKind (Some (Int n)) h = refl
read_value IntKind (Some (Truth b)) h = no h
read_value IntKind (Some (Set s)) h = no h
read_value BoolKind (Some (Int n)) h = no h
read_value BoolKind (Some (Truth b)) h = refl
read_value BoolKind (Some (Set s)) h = no h
read_value SetKind (Some (Int n)) h = no h
read_value SetKind (Some (Truth b)) h = no h
read_value SetKind (Some (Set s)) h = refl

read_elements : (K : Partial) (k : Kind) (ts : List Term)
    → list_all (is_read K k) (map Some ts) ≡ true
    → values K ts ≡ Some (map (λ s. read_as k (value_of K s)) (map Some ts))
read_elements K k [] h = refl
read_elements K k (t ∷ ts) h =
    let first : value K t ≡ Some (read_as k (value K t)) = read_value k (value K t) (and_first (is_read K k (Some t)) _ h) in
    let rest : values K ts ≡ Some (map (λ s. read_as k (value_of K s)) (map Some ts)) = read_elements K k ts (and_second (is_read K k (Some t)) _ h) in
    λ i. option_cons (first i) (rest i)

-- the argument at the first index
abbrev given_here : Partial → Argument → Shape → ArgValue
given_here K x s = given K (x ∷ []) 0 s

as_given : (K : Partial) (k : Kind) (x : Argument)
    → ManyValues (map (λ s. read_as k (value_of K s)) (slots_in x)) ≡ given_here K x (ArrayOf k)
as_given K IntKind x = ap ManyValues (sym (map-map Int (int_of K) (slots_in x)))
as_given K BoolKind x = ap ManyValues (sym (map-map Truth (bool_of K) (slots_in x)))
as_given K SetKind x = ap ManyValues (sym (map-map Set (set_of_slot K) (slots_in x)))

as_given_one : (K : Partial) (k : Kind) (x : Argument)
    → OneValue (read_as k (value_of K (slot_in x))) ≡ given_here K x (ScalarOf k)
as_given_one K IntKind x = refl
as_given_one K BoolKind x = refl
as_given_one K SetKind x = refl

ready_argument : (K : Partial) (s : Shape) (x : Argument) → has_shape s x ≡ true
    → argument_is_read K s x ≡ true → argument_value K x ≡ Some (given_here K x s)
ready_argument K (ScalarOf k) x h r = scalar_value K k x h ∙ ap (option_map OneValue) (read_value k (value_of K (slot_in x)) r) ∙ ap Some (as_given_one K k x)
ready_argument K (ArrayOf k) x h r =
    let slots = slots_are_terms k x h in
    let all : list_all (is_read K k) (map Some (terms_in x)) ≡ true = ap (list_all (is_read K k)) (sym slots) ∙ r in
    array_value K k x h ∙ ap (option_map ManyValues) (read_elements K k (terms_in x) all)
    ∙ ap (λ ss. Some (ManyValues (map (λ s. read_as k (value_of K s)) ss))) (sym slots) ∙ ap Some (as_given K k x)

-- ---- several arguments

pub given_first : (K : Partial) (x : Argument) (xs : List Argument) (s : Shape)
    → given K (x ∷ xs) 0 s ≡ given_here K x s
given_first K x xs (ScalarOf IntKind) = refl
given_first K x xs (ScalarOf BoolKind) = refl
given_first K x xs (ScalarOf SetKind) = refl
given_first K x xs (ArrayOf IntKind) = refl
given_first K x xs (ArrayOf BoolKind) = refl
given_first K x xs (ArrayOf SetKind) = refl

pub given_next : (K : Partial) (x : Argument) (xs : List Argument) (i : ℕ) (s : Shape)
    → given K (x ∷ xs) (suc i) s ≡ given K xs i s
given_next K x xs i (ScalarOf IntKind) = refl
given_next K x xs i (ScalarOf BoolKind) = refl
given_next K x xs i (ScalarOf SetKind) = refl
given_next K x xs i (ArrayOf IntKind) = refl
given_next K x xs i (ArrayOf BoolKind) = refl
given_next K x xs i (ArrayOf SetKind) = refl

pub given_later : (K : Partial) (x : Argument) (xs : List Argument) (i : ℕ) (ss : List Shape)
    → given_from K (x ∷ xs) (suc i) ss ≡ given_from K xs i ss
given_later K x xs i [] = refl
given_later K x xs i (s ∷ ss) = let one = given_next K x xs i s in let more = given_later K x xs (suc i) ss in λ j. one j ∷ more j

-- where each scalar has a value of the kind that is asked for, the arguments have the values that
-- are given
pub ready_values : (K : Partial) (ss : List Shape) (xs : List Argument) → have_shapes ss xs ≡ true
    → are_read K ss xs ≡ true → argument_values K xs ≡ Some (given_values K ss xs)
ready_values K [] [] h r = refl
ready_values K [] (x ∷ xs) h r = no h
ready_values K (s ∷ ss) [] h r = no h
ready_values K (s ∷ ss) (x ∷ xs) h r =
    let one : argument_value K x ≡ Some (given K (x ∷ xs) 0 s) =
    ready_argument K s x (and_first (has_shape s x) _ h) (and_first (argument_is_read K s x) _ r) ∙ ap Some (sym (given_first K x xs s)) in
    let more : argument_values K xs ≡ Some (given_from K (x ∷ xs) 1 ss) =
    ready_values K ss xs (and_second (has_shape s x) _ h) (and_second (argument_is_read K s x) _ r) ∙ ap Some (sym (given_later K x xs 0 ss)) in
    λ i. option_cons (one i) (more i)

-- ---- where a value is of another kind, no test passes

plain_not : (k : Kind) (v : Value) → same_kind (kind_of v) k ≡ false → plain k v ≡ None
plain_not IntKind (Int n) h = no' h
plain_not IntKind (Truth b) h = refl
plain_not IntKind (Set s) h = refl
plain_not BoolKind (Int n) h = refl
plain_not BoolKind (Truth b) h = no' h
plain_not BoolKind (Set s) h = refl
plain_not SetKind (Int n) h = refl
plain_not SetKind (Truth b) h = refl
plain_not SetKind (Set s) h = no' h

kind_not : (k : Kind) (o : Option Value) (v : Value) → o ≡ Some v
    → option_map_or (λ v. same_kind (kind_of v) k) o false ≡ false → plain k v ≡ None
kind_not k None v e h = cc
kind_not k (Some w) v e h = let same : w ≡ v = cc in plain_not k v (ap (λ z. same_kind (kind_of z) k) (sym same) ∙ h)

plain_none : (k : Kind) (o : Option (Plain k)) → option_cons o None ≡ None
plain_none k None = refl
plain_none k (Some x) = refl

elements_not : (K : Partial) (k : Kind) (ts : List Term) (vs : List Value) → values K ts ≡ Some vs
    → list_all (is_read K k) (map Some ts) ≡ false → plain_list k vs ≡ None
elements_not K k [] vs e h = no' h
elements_not K k (t ∷ ts) vs e h =
    let (v, ws, is, are, cons) = option_cons_parts (value K t) (values K ts) vs e in
    ap (plain_list k) cons
    ∙ (elim (is_read K k (Some t)) as (λ b. is_read K k (Some t) ≡ b → (b && list_all (is_read K k) (map Some ts)) ≡ false → option_cons (plain k v) (plain_list k ws) ≡ None) [
      | true ↦ λ _ more. ap (option_cons (plain k v)) (elements_not K k ts ws are more) ∙ plain_none k (plain k v)
      | false ↦ λ one _. ap (λ o. option_cons o (plain_list k ws)) (kind_not k (value K t) v is one)
    ] refl h)

argument_not : (K : Partial) (s : Shape) (x : Argument) (v : ArgValue) → has_shape s x ≡ true
    → argument_is_read K s x ≡ false → argument_value K x ≡ Some v → read s v ≡ None
argument_not K (ScalarOf k) x v h r e =
    let (w, is, same) = map_some OneValue (value_of K (slot_in x)) v (sym (scalar_value K k x h) ∙ e) in
    ap (read (ScalarOf k)) (sym same) ∙ kind_not k (value_of K (slot_in x)) w is r
argument_not K (ArrayOf k) x v h r e =
    let (ws, are, same) = map_some ManyValues (values K (terms_in x)) v (sym (array_value K k x h) ∙ e) in
    ap (read (ArrayOf k)) (sym same) ∙ elements_not K k (terms_in x) ws are (ap (list_all (is_read K k)) (sym (slots_are_terms k x h)) ∙ r)

none_passes : (s : Shape) (ss : List Shape) (t : Of s → Test ss) (vs : List ArgValue)
    (o : Option (Of s)) → ((y : Of s) → passes ss (t y) vs ≡ false)
    → option_map_or (λ y. passes ss (t y) vs) o false ≡ false
none_passes s ss t vs None h = refl
none_passes s ss t vs (Some y) h = h y

pub wrong_kind : (K : Partial) (ss : List Shape) (t : Test ss) (xs : List Argument)
    (vs : List ArgValue) → have_shapes ss xs ≡ true → are_read K ss xs ≡ false
    → argument_values K xs ≡ Some vs → passes ss t vs ≡ false
wrong_kind K [] t [] vs h r e = no' r
wrong_kind K [] t (x ∷ xs) vs h r e = no h
wrong_kind K (s ∷ ss) t [] vs h r e = no h
wrong_kind K (s ∷ ss) t (x ∷ xs) vs h r e =
    let (v, ws, is, are, cons) = option_cons_parts (argument_value K x) (argument_values K xs) vs e in
    let shaped = and_first (has_shape s x) _ h in
    let others = and_second (has_shape s x) _ h in
    ap (passes (s ∷ ss) t) cons
    ∙ (elim (argument_is_read K s x) as (λ b. argument_is_read K s x ≡ b → (b && are_read K ss xs) ≡ false → option_map_or (λ y. passes ss (t y) ws) (read s v) false ≡ false) [
      | true ↦ λ _ more. none_passes s ss t ws (read s v) (λ y. wrong_kind K ss (t y) xs ws others more are)
      | false ↦ λ one _. ap (λ o. option_map_or (λ y. passes ss (t y) ws) o false) (argument_not K s x v shaped one is)
    ] refl r)

-- ---- there are values where each scalar has one

cons_some : {A : Type 0} (o : Option A) (os : Option (List A))
    → is_some (option_cons o os) ≡ (is_some o && is_some os)
cons_some None None = refl
cons_some None (Some xs) = refl
cons_some (Some x) None = refl
cons_some (Some x) (Some xs) = refl

map_is_some : {A B : Type 0} (f : A → B) (o : Option A) → is_some (option_map f o) ≡ is_some o
map_is_some f None = refl
map_is_some f (Some x) = refl

pub values_some : (K : Partial) (ts : List Term) → is_some (values K ts) ≡ list_all (has_value K) ts
values_some K [] = refl
values_some K (t ∷ ts) = cons_some (value K t) (values K ts) ∙ ap (λ b. is_some (value K t) && b) (values_some K ts)

argument_some : (K : Partial) (x : Argument) → is_some (argument_value K x) ≡ is_given K x
argument_some K (One (Scalar k t)) = map_is_some OneValue (value K t) ∙ sym (and-true (has_value K t))
argument_some K (One (Array x k ts)) = map_is_some ManyValues (values K ts) ∙ values_some K ts
argument_some K (ListOf ps) = map_is_some ManyValues (values K (flat_map terms_at ps)) ∙ values_some K (flat_map terms_at ps)

pub values_given : (K : Partial) (xs : List Argument)
    → is_some (argument_values K xs) ≡ are_given K xs
values_given K [] = refl
values_given K (x ∷ xs) =
    cons_some (argument_value K x) (argument_values K xs) ∙ ap (λ b. b && is_some (argument_values K xs)) (argument_some K x) ∙ ap (λ b. is_given K x && b) (values_given K xs)
