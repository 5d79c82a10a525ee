-- A forced step's value is the only one with which its point holds.
use Rattle.std.proofs.Common.{◌≡◌, ℕ, suc, zero, ℤ, pos, negsuc, Bool, true, false, cond, List, [], ◌∷◌, ◌++◌, length, filter, Option, Some, None, refl, sym, ap, subst, subst₂, ◌∙◌, option_map, slice_get, is_none, flat_map, ◌⊎◌, inl, inr, IsSomeAnd, Contains, IsTrue, arith, ◌&&◌, rules}
use Rattle.std.specs.Prelude.{⊤}
use Rattle.std.specs.List.{AllByRecursion}
use Rattle.std.specs.Option.{option_map_or}
pub use Rattle.std.proofs.lemmas.List.Elements.{filter-append}
use Rattle.std.proofs.lemmas.Grind.{common_steps}
use Rattle.fz_meaning.specs.Relations.{kind_of, option_cons}
use Rattle.fz_meaning.specs.Builtins.{Shape, Of, Plain, Test, Row, is_named, rows, passes, read, plain, plain_list, ArgValue}
use Rattle.fz_meaning.specs.Builtins.Shape.{ScalarOf, ArrayOf}
use Rattle.fz_meaning.specs.Builtins.ArgValue.{OneValue}
use Rattle.fz_meaning.specs.Results.{Result, result_of}
use Rattle.fz_meaning.specs.Results.Result.{NoResult, Places, UnitTerm}
use Rattle.fz_meaning.specs.Meaning.{Argument, Variable, Model, Point, Partial, value, values, value_at, terms_in, argument_value, argument_values, row_of, row_holds, HoldsUnder, table_name, fits as fits_row}
use Rattle.fz_meaning.specs.declared.term.Term.{Term}
use Rattle.fz_meaning.specs.declared.term.Term.TheVariants.{Var, Fixed}
use Rattle.fz_meaning.specs.Meaning.Place.{Scalar}
use Rattle.fz_meaning.specs.Meaning.Argument.{One}
use Rattle.fz_meaning.specs.Meaning.Point.{DomainPoint, DefinitionPoint, ArrayPoint, ConstraintPoint}
use Rattle.fz_meaning.specs.Steps.{Gives, IsResult, HasUnitCoefficient, HasOneNumber, kind_at, give}
use Rattle.fz_meaning.proofs.Values.{no, no'}
use Rattle.fz_meaning.proofs.Determined.{Both, Determines, DeterminesHere, DeterminesTerm, DeterminesResult, RowDetermines, rows_determine, at_found, IsUnit}
use Rattle.fz_base.specs.declared.value.Value.{Value}
use Rattle.fz_base.specs.declared.value.Value.TheVariants.{Int, Bool as Truth, Set}
use Rattle.fz_meaning.specs.declared.kind.Kind.{Kind}
use Rattle.fz_meaning.specs.declared.kind.Kind.TheVariants.{Int as IntKind, Bool as BoolKind, Set as SetKind}

-- ---- one more value

pub value_at_given : (K : Partial) (n : ℕ) (v u : Value) → value_at (give K n v) n ≡ Some u → u ≡ v
value_at_given (o ∷ K) (suc n) v u e = value_at_given K n v u e
value_at_given _ n v u e = cc

pub value_at_other : (K : Partial) (n k : ℕ) (v : Value) → (k ≡ n → ⊥)
    → value_at (give K n v) k ≡ value_at K k
value_at_other (o ∷ K) zero zero v h = absurd (h refl)
value_at_other (o ∷ K) (suc n) (suc k) v h = value_at_other K n k v (λ e. h (ap suc e))
value_at_other _ n k v h = refl

-- ---- lists

abbrev pub is_open : Partial → Term → Bool
is_open K t = is_none (value K t)

pub filter-none : {A : Type 0} (p : A → Bool) (x : A) (xs : List A) → filter p (x ∷ xs) ≡ []
    → (p x ≡ false) × (filter p xs ≡ [])
filter-none p x xs e =
    elim (p x) as (λ b. cond b (x ∷ filter p xs) (filter p xs) ≡ [] → (b ≡ false) × (filter p xs ≡ [])) [ true ↦ λ e. cc | false ↦ λ e. (refl, e) ] e

filter-head : {A : Type 0} (p : A → Bool) (xs ys : List A) (y : A) → filter p xs ≡ y ∷ ys
    → p y ≡ true
filter-head p [] ys y e = cc
filter-head p (x ∷ xs) ys y e =
    elim (p x) as (λ b. p x ≡ b → cond b (x ∷ filter p xs) (filter p xs) ≡ y ∷ ys → p y ≡ true) [
      | true ↦ λ h e. let same : x ≡ y = cc in subst (λ z. p z ≡ true) same h
      | false ↦ λ h e. filter-head p xs ys y e
    ] refl e

pub append-nil : {A : Type 0} (xs ys : List A) → xs ++ ys ≡ [] → (xs ≡ []) × (ys ≡ [])
append-nil [] ys e = (refl, e)
append-nil (x ∷ xs) ys e = cc

pub append_one : {A : Type 0} (xs ys : List A) (y : A) → xs ++ ys ≡ y ∷ [] → (ys ≡ [] → ⊥)
    → (xs ≡ []) × (ys ≡ y ∷ [])
append_one [] ys y e h = (refl, e)
append_one (x ∷ xs) ys y e h = let rest : xs ++ ys ≡ [] = cc in absurd (h (append-nil xs ys rest).1)

pub append_one_left : {A : Type 0} (xs ys : List A) (y : A) → xs ++ ys ≡ y ∷ [] → (xs ≡ [] → ⊥)
    → (xs ≡ y ∷ []) × (ys ≡ [])
append_one_left [] ys y e h = absurd (h refl)
append_one_left (x ∷ xs) ys y e h =
    let rest : xs ++ ys ≡ [] = cc in
    let head : x ≡ y = cc in
    let nil : xs ≡ [] = (append-nil xs ys rest).0 in
    ((λ i. head i ∷ nil i), (append-nil xs ys rest).1)

-- ---- what has a value still has it

module _ (K : Partial) (n : ℕ) (none : value_at K n ≡ None) (v : Value) where
  pub term_keeps : (t : Term) → is_open K t ≡ false → value (give K n v) t ≡ value K t
  term_keeps (Var k) closed = value_at_other K n k v (λ e. no' (sym (ap is_none none) ∙ ap (λ j. is_none (value_at K j)) (sym e) ∙ closed))
  term_keeps (Fixed w) closed = refl

  pub terms_keep : (ts : List Term) → filter (is_open K) ts ≡ []
      → values (give K n v) ts ≡ values K ts
  terms_keep [] e = refl
  terms_keep (t ∷ ts) e =
      let parts : (is_open K t ≡ false) × (filter (is_open K) ts ≡ []) = filter-none (is_open K) t ts e in
      λ i. option_cons (term_keeps t parts.0 i) (terms_keep ts parts.1 i)

  pub argument_keeps : (x : Argument) → filter (is_open K) (terms_in x) ≡ []
      → argument_value (give K n v) x ≡ argument_value K x
  argument_keeps x e = grind (arith, common_steps, option_map, term_keeps, filter-none, terms_keep)

  pub arguments_keep : (xs : List Argument) → filter (is_open K) (flat_map terms_in xs) ≡ []
      → argument_values (give K n v) xs ≡ argument_values K xs
  arguments_keep [] e = refl
  arguments_keep (x ∷ xs) e =
      let parts : (filter (is_open K) (terms_in x) ≡ []) × (filter (is_open K) (flat_map terms_in xs) ≡ []) = append-nil _ _ (sym (filter-append (is_open K) (terms_in x) (flat_map terms_in xs)) ∙ e) in
      λ i. option_cons (argument_keeps x parts.0 i) (arguments_keep xs parts.1 i)

-- ---- a test that passes

pub record Passes (K : Partial) (ss : List Shape) (t : Test ss) (xs : List Argument) : Type 0 where
  pub arguments : List ArgValue
  pub are : argument_values K xs ≡ Some arguments
  pub passed : passes ss t arguments ≡ true

both_at : (ss : List Shape) (t u : Test ss) (P : Type 0) → Both ss t u P → (vs : List ArgValue)
    → passes ss t vs ≡ true → passes ss u vs ≡ true → P
both_at [] t u P h [] d e = h d e
both_at (s ∷ ss) t u P h (v ∷ vs) d e =
    elim (read s v) as (λ o. option_map_or (λ x. passes ss (t x) vs) o false ≡ true → option_map_or (λ x. passes ss (u x) vs) o false ≡ true → P) [
      | None ↦ λ d e. no d
      | Some x ↦ λ d e. both_at ss (t x) (u x) P (h x) vs d e
    ] d e
both_at _ t u P h _ d e = no d

-- the first argument's value, read, and the others
pub record First (K : Partial) (s : Shape) (ss : List Shape) (t : Of s → Test ss) (x : Argument) (xs : List Argument) : Type 0 where
  pub argument : ArgValue
  pub is : argument_value K x ≡ Some argument
  pub read_as : Of s
  pub reads : read s argument ≡ Some read_as
  pub others : Passes K ss (t read_as) xs

pub option_cons_parts : {A : Type 0} (o : Option A) (os : Option (List A)) (xs : List A)
    → option_cons o os ≡ Some xs → (x : A) × (ys : List A) × (o ≡ Some x) × (os ≡ Some ys)
    × (xs ≡ x ∷ ys)
option_cons_parts o os xs e = grind (arith, common_steps)

first_of : (K : Partial) (s : Shape) (ss : List Shape) (t : Of s → Test ss) (x : Argument)
    (xs : List Argument) → Passes K (s ∷ ss) t (x ∷ xs) → First K s ss t x xs
first_of K s ss t x xs h = grind (arith, common_steps, option_cons_parts, no)

no_more : (K : Partial) (s : Shape) (ss : List Shape) (t : Test (s ∷ ss)) → Passes K (s ∷ ss) t []
    → ⊥
no_more K s ss t h = let nil : [] ≡ h.arguments = cc in no (subst (λ ws. passes (s ∷ ss) t ws ≡ true) (sym nil) h.passed)

-- the value that reads as y
abbrev back : (k : Kind) → Plain k → Value
back IntKind n = Int n
back BoolKind b = Truth b
back SetKind s = Set s

plain_back : (k : Kind) (v : Value) (y : Plain k) → plain k v ≡ Some y → v ≡ back k y
plain_back IntKind (Int n) y e = let h : n ≡ y = cc in ap Int h
plain_back BoolKind (Truth b) y e = let h : b ≡ y = cc in ap Truth h
plain_back SetKind (Set s) y e = let h : s ≡ y = cc in ap Set h
plain_back _ _ y e = cc

same_some : {A : Type 0} {x y : A} {o p : Option A} → o ≡ Some x → p ≡ Some y → o ≡ p → x ≡ y
same_some d e h = cc

variable_argument : (K : Partial) (n : ℕ) (v : Value) (k : Kind) (a : ArgValue)
    → argument_value (give K n v) (One (Scalar k (Var n))) ≡ Some a → a ≡ OneValue v
variable_argument K n v k a e = grind (arith, common_steps, option_map, value_at_given)

-- ---- where the variable, by itself, is an argument that may be filled

module _ (K : Partial) (n : ℕ) (none : value_at K n ≡ None) (v w : Value) where
  open_here : filter (is_open K) (Var n ∷ []) ≡ [] → ⊥
  open_here e = no' (sym (ap is_none none) ∙ (filter-none (is_open K) (Var n) [] e).0)

  alone_here : (ts : List Term) → filter (is_open K) (Var n ∷ ts) ≡ Var n ∷ []
      → filter (is_open K) ts ≡ []
  alone_here ts e = (append_one_left (filter (is_open K) (Var n ∷ [])) (filter (is_open K) ts) (Var n) (sym (filter-append (is_open K) (Var n ∷ []) ts) ∙ e) open_here).1

  stands_open : (xs : List Argument) (i : ℕ) (k : Kind) → slice_get xs i
      ≡ Some (One (Scalar k (Var n))) → filter (is_open K) (flat_map terms_in xs) ≡ [] → ⊥
  stands_open [] i k at e = cc
  stands_open (x ∷ xs) zero k at e =
      let same : x ≡ One (Scalar k (Var n)) = cc in
      let parts : (filter (is_open K) (terms_in x) ≡ []) × (filter (is_open K) (flat_map terms_in xs) ≡ []) = append-nil _ _ (sym (filter-append (is_open K) (terms_in x) (flat_map terms_in xs)) ∙ e) in
      open_here (subst (λ y. filter (is_open K) (terms_in y) ≡ []) same parts.0)
  stands_open (x ∷ xs) (suc i) k at e =
      let parts : (filter (is_open K) (terms_in x) ≡ []) × (filter (is_open K) (flat_map terms_in xs) ≡ []) = append-nil _ _ (sym (filter-append (is_open K) (terms_in x) (flat_map terms_in xs)) ∙ e) in
      stands_open xs i k at parts.1

  same_others : (xs : List Argument) → filter (is_open K) (flat_map terms_in xs) ≡ []
      → argument_values (give K n v) xs ≡ argument_values (give K n w) xs
  same_others xs e = arguments_keep K n none v xs e ∙ sym (arguments_keep K n none w xs e)

  same_argument : (x : Argument) → filter (is_open K) (terms_in x) ≡ []
      → argument_value (give K n v) x ≡ argument_value (give K n w) x
  same_argument x e = argument_keeps K n none v x e ∙ sym (argument_keeps K n none w x e)

  determined_here : (s : Shape) (ss : List Shape) (t : Of s → Test ss) (k : Kind)
      (xs : List Argument) → DeterminesHere s ss t
      → First (give K n v) s ss t (One (Scalar k (Var n))) xs → First (give K n w) s ss t (One (Scalar k (Var n))) xs
      → filter (is_open K) (flat_map terms_in xs) ≡ [] → v ≡ w
  determined_here (ScalarOf j) ss t k xs d f g closed =
      let is_v : f.argument ≡ OneValue v = variable_argument K n v k f.argument f.is in
      let is_w : g.argument ≡ OneValue w = variable_argument K n w k g.argument g.is in
      let v_is : v ≡ back j f.read_as = plain_back j v f.read_as (subst (λ a. read (ScalarOf j) a ≡ Some f.read_as) is_v f.reads) in
      let w_is : w ≡ back j g.read_as = plain_back j w g.read_as (subst (λ a. read (ScalarOf j) a ≡ Some g.read_as) is_w g.reads) in
      let same : f.others.arguments ≡ g.others.arguments = same_some f.others.are g.others.are (same_others xs closed) in
      let equal : f.read_as ≡ g.read_as =
      both_at ss (t f.read_as) (t g.read_as) (f.read_as ≡ g.read_as) (d f.read_as g.read_as) f.others.arguments f.others.passed
      (subst (λ vs. passes ss (t g.read_as) vs ≡ true) (sym same) g.others.passed) in
      v_is ∙ ap (back j) equal ∙ sym w_is
  determined_here (ArrayOf j) ss t k xs d f g closed = absurd d

  determined_at : (ss : List Shape) (t : Test ss) (xs : List Argument) (i : ℕ) (k : Kind)
      → Determines ss t i → slice_get xs i ≡ Some (One (Scalar k (Var n)))
      → filter (is_open K) (flat_map terms_in xs) ≡ Var n ∷ [] → Passes (give K n v) ss t xs → Passes (give K n w) ss t xs → v ≡ w
  determined_at [] t xs i k d at only p q = absurd d
  determined_at (s ∷ ss) t [] i k d at only p q = absurd (no_more _ s ss t p)
  determined_at (s ∷ ss) t (x ∷ xs) zero k d at only p q =
      let same : x ≡ One (Scalar k (Var n)) = cc in
      let only_here : filter (is_open K) (Var n ∷ flat_map terms_in xs) ≡ Var n ∷ [] = subst (λ y. filter (is_open K) (terms_in y ++ flat_map terms_in xs) ≡ Var n ∷ []) same only in
      determined_here s ss t k xs d
      (first_of (give K n v) s ss t (One (Scalar k (Var n))) xs (subst (λ y. Passes (give K n v) (s ∷ ss) t (y ∷ xs)) same p))
      (first_of (give K n w) s ss t (One (Scalar k (Var n))) xs (subst (λ y. Passes (give K n w) (s ∷ ss) t (y ∷ xs)) same q))
      (alone_here (flat_map terms_in xs) only_here)
  determined_at (s ∷ ss) t (x ∷ xs) (suc i) k d at only p q =
      let parts : (filter (is_open K) (terms_in x) ≡ []) × (filter (is_open K) (flat_map terms_in xs) ≡ Var n ∷ []) =
      append_one (filter (is_open K) (terms_in x)) (filter (is_open K) (flat_map terms_in xs)) (Var n) (sym (filter-append (is_open K) (terms_in x) (flat_map terms_in xs)) ∙ only) (stands_open xs i k at) in
      let f : First (give K n v) s ss t x xs = first_of (give K n v) s ss t x xs p in
      let g : First (give K n w) s ss t x xs = first_of (give K n w) s ss t x xs q in
      let same : f.argument ≡ g.argument = same_some f.is g.is (same_argument x parts.0) in
      let equal : f.read_as ≡ g.read_as = same_some f.reads g.reads (ap (read s) same) in
      determined_at ss (t f.read_as) xs i k (d f.read_as) at parts.1 f.others (subst (λ y. Passes (give K n w) ss (t y) xs) (sym equal) g.others)

-- ---- where the variable is an element of the second array with the coefficient 1 or -1

-- the values of the terms are these integers
record AreInts (K : Partial) (ts : List Term) (ns : List ℤ) : Type 0 where
  are : List Value
  have : values K ts ≡ Some are
  reads : plain_list IntKind are ≡ Some ns

record FirstInt (K : Partial) (t : Term) (ts : List Term) (ns : List ℤ) : Type 0 where
  first : ℤ
  others : List ℤ
  is : value K t ≡ Some (Int first)
  splits : ns ≡ first ∷ others
  are : AreInts K ts others

first_int : (K : Partial) (t : Term) (ts : List Term) (ns : List ℤ) → AreInts K (t ∷ ts) ns
    → FirstInt K t ts ns
first_int K t ts ns h = search (rules, option_cons_parts, plain_back)

pub map_some : {A B : Type 0} (f : A → B) (o : Option A) (y : B) → option_map f o ≡ Some y
    → (x : A) × (o ≡ Some x) × (f x ≡ y)
map_some f None y e = cc
map_some f (Some x) y e = (x, refl, cc)

are_ints : (K : Partial) (x : Argument) (a : ArgValue) (ns : List ℤ) → argument_value K x ≡ Some a
    → read (ArrayOf IntKind) a ≡ Some ns → AreInts K (terms_in x) ns
are_ints K x a ns e r = grind (arith, common_steps, map_some)

-- the numbers up to an index, the one there, and those after it
record SplitAt (ns : List ℤ) (i : ℕ) (n : ℤ) : Type 0 where
  before : List ℤ
  after : List ℤ
  splits : ns ≡ before ++ n ∷ after
  at : length before ≡ i

split_at : (K : Partial) (ts : List Term) (i : ℕ) (u : Term) (n : ℤ) (ns : List ℤ)
    → slice_get ts i ≡ Some u → value K u ≡ Some (Int n) → AreInts K ts ns → SplitAt ns i n
split_at K [] i u n ns at is h = cc
split_at K (t ∷ ts) zero u n ns at is h =
    let f : FirstInt K t ts ns = first_int K t ts ns h in
    let same : t ≡ u = cc in
    let equal : Int f.first ≡ Int n = same_some f.is is (ap (value K) same) in
    let number : f.first ≡ n = cc in
    record { before = []; after = f.others; splits = f.splits ∙ ap (λ m. m ∷ f.others) number; at = refl }
split_at K (t ∷ ts) (suc i) u n ns at is h =
    let f : FirstInt K t ts ns = first_int K t ts ns h in
    let s : SplitAt f.others i n = split_at K ts i u n f.others at is f.are in
    record { before = f.first ∷ s.before; after = s.after; splits = f.splits ∙ ap (λ ms. f.first ∷ ms) s.splits; at = ap suc s.at }

-- two lists that differ at one index alone
record DifferAt (ms ns : List ℤ) (i : ℕ) (v w : Value) : Type 0 where
  before : List ℤ
  after : List ℤ
  left : ℤ
  right : ℤ
  left_splits : ms ≡ before ++ left ∷ after
  right_splits : ns ≡ before ++ right ∷ after
  at : length before ≡ i
  left_is : v ≡ Int left
  right_is : w ≡ Int right

module _ (K : Partial) (n : ℕ) (none : value_at K n ≡ None) (v w : Value) where
  same_ints : (ts : List Term) (ms ns : List ℤ) → filter (is_open K) ts ≡ []
      → AreInts (give K n v) ts ms → AreInts (give K n w) ts ns → ms ≡ ns
  same_ints ts ms ns closed h g =
      let same : h.are ≡ g.are = same_some h.have g.have (terms_keep K n none v ts closed ∙ sym (terms_keep K n none w ts closed)) in
      same_some h.reads g.reads (ap (plain_list IntKind) same)

  pub variable_open : (ts : List Term) (i : ℕ) → slice_get ts i ≡ Some (Var n)
      → filter (is_open K) ts ≡ [] → ⊥
  variable_open [] i at e = cc
  variable_open (t ∷ ts) zero at e =
      let same : t ≡ Var n = cc in
      open_here K n none v w (subst (λ s. filter (is_open K) (s ∷ []) ≡ []) same (ap (λ b. cond b (t ∷ []) []) (filter-none (is_open K) t ts e).0))
  variable_open (t ∷ ts) (suc i) at e = variable_open ts i at (filter-none (is_open K) t ts e).1

  differ_at : (ts : List Term) (i : ℕ) (ms ns : List ℤ) → slice_get ts i ≡ Some (Var n)
      → filter (is_open K) ts ≡ Var n ∷ [] → AreInts (give K n v) ts ms → AreInts (give K n w) ts ns
      → DifferAt ms ns i v w
  differ_at [] i ms ns at only h g = cc
  differ_at (t ∷ ts) zero ms ns at only h g =
      let same : t ≡ Var n = cc in
      let closed : filter (is_open K) ts ≡ [] = alone_here K n none v w ts (subst (λ s. filter (is_open K) (s ∷ ts) ≡ Var n ∷ []) same only) in
      let f : FirstInt (give K n v) t ts ms = first_int (give K n v) t ts ms h in
      let d : FirstInt (give K n w) t ts ns = first_int (give K n w) t ts ns g in
      let v_is : Int f.first ≡ v = value_at_given K n v (Int f.first) (subst (λ s. value (give K n v) s ≡ Some (Int f.first)) same f.is) in
      let w_is : Int d.first ≡ w = value_at_given K n w (Int d.first) (subst (λ s. value (give K n w) s ≡ Some (Int d.first)) same d.is) in
      let others : f.others ≡ d.others = same_ints ts f.others d.others closed f.are d.are in
      record { before = []; after = f.others; left = f.first; right = d.first; left_splits = f.splits; right_splits = d.splits ∙ ap (λ os. d.first ∷ os) (sym others); at = refl; left_is = sym v_is; right_is = sym w_is }
  differ_at (t ∷ ts) (suc i) ms ns at only h g =
      let parts : (filter (is_open K) (t ∷ []) ≡ []) × (filter (is_open K) ts ≡ Var n ∷ []) =
      append_one (filter (is_open K) (t ∷ [])) (filter (is_open K) ts) (Var n) (sym (filter-append (is_open K) (t ∷ []) ts) ∙ only) (variable_open ts i at) in
      let keeps : value (give K n v) t ≡ value (give K n w) t =
      term_keeps K n none v t (filter-none (is_open K) t [] parts.0).0 ∙ sym (term_keeps K n none w t (filter-none (is_open K) t [] parts.0).0) in
      let f : FirstInt (give K n v) t ts ms = first_int (give K n v) t ts ms h in
      let d : FirstInt (give K n w) t ts ns = first_int (give K n w) t ts ns g in
      let equal : Int f.first ≡ Int d.first = same_some f.is d.is keeps in
      let first : f.first ≡ d.first = cc in
      let r : DifferAt f.others d.others i v w = differ_at ts i f.others d.others at parts.1 f.are d.are in
      record {
        before = f.first ∷ r.before;
        after = r.after;
        left = r.left;
        right = r.right;
        left_splits = f.splits ∙ ap (λ os. f.first ∷ os) r.left_splits;
        right_splits = d.splits ∙ ap (λ os. d.first ∷ os) r.right_splits ∙ ap (λ m. m ∷ (r.before ++ r.right ∷ r.after)) (sym first);
        at = ap suc r.at;
        left_is = r.left_is;
        right_is = r.right_is;
      }

  -- a coefficient of 1 or -1
  unit_of : (u : Term) → (value K u ≡ Some (Int (pos 1))) ⊎ (value K u ≡ Some (Int (negsuc 0)))
      → (a : ℤ) × (value K u ≡ Some (Int a)) × IsUnit a
  unit_of u (inl e) = (pos 1, e, inl refl)
  unit_of u (inr e) = (negsuc 0, e, inr refl)

  closed_of : (u : Term) (a : Value) → value K u ≡ Some a → is_open K u ≡ false
  closed_of u a e = ap is_none e

  term_determined : (ss : List Shape) (t : Test ss) (xs : List Argument) → DeterminesTerm ss t
      → HasUnitCoefficient K xs n
      → filter (is_open K) (flat_map terms_in xs) ≡ Var n ∷ [] → Passes (give K n v) ss t xs → Passes (give K n w) ss t xs → v ≡ w
  term_determined (ArrayOf IntKind ∷ ArrayOf IntKind ∷ ss) t [] d c only p q = absurd (no_more _ (ArrayOf IntKind) (ArrayOf IntKind ∷ ss) t p)
  term_determined (ArrayOf IntKind ∷ ArrayOf IntKind ∷ ss) t (x ∷ []) d c only p q =
      absurd (no_more _ (ArrayOf IntKind) ss _ (first_of (give K n v) (ArrayOf IntKind) (ArrayOf IntKind ∷ ss) t x [] p).others)
  term_determined (ArrayOf IntKind ∷ ArrayOf IntKind ∷ ss) t (x ∷ y ∷ xs) d (i, at, u, coefficient, is_unit) only p q =
      let later : filter (is_open K) (flat_map terms_in (y ∷ xs)) ≡ [] → ⊥ = λ e. variable_open (terms_in y) i at (append-nil _ _ (sym (filter-append (is_open K) (terms_in y) (flat_map terms_in xs)) ∙ e)).0 in
      let parts : (filter (is_open K) (terms_in x) ≡ []) × (filter (is_open K) (flat_map terms_in (y ∷ xs)) ≡ Var n ∷ []) =
      append_one (filter (is_open K) (terms_in x)) (filter (is_open K) (flat_map terms_in (y ∷ xs))) (Var n) (sym (filter-append (is_open K) (terms_in x) (flat_map terms_in (y ∷ xs))) ∙ only) later in
      let parts_y : (filter (is_open K) (terms_in y) ≡ Var n ∷ []) × (filter (is_open K) (flat_map terms_in xs) ≡ []) =
      append_one_left (filter (is_open K) (terms_in y)) (filter (is_open K) (flat_map terms_in xs)) (Var n) (sym (filter-append (is_open K) (terms_in y) (flat_map terms_in xs)) ∙ parts.1) (variable_open (terms_in y) i at) in
      let f : First (give K n v) (ArrayOf IntKind) (ArrayOf IntKind ∷ ss) t x (y ∷ xs) = first_of (give K n v) (ArrayOf IntKind) (ArrayOf IntKind ∷ ss) t x (y ∷ xs) p in
      let g : First (give K n w) (ArrayOf IntKind) (ArrayOf IntKind ∷ ss) t x (y ∷ xs) = first_of (give K n w) (ArrayOf IntKind) (ArrayOf IntKind ∷ ss) t x (y ∷ xs) q in
      let same : f.read_as ≡ g.read_as = same_some f.reads g.reads (ap (read (ArrayOf IntKind)) (same_some f.is g.is (same_argument K n none v w x parts.0))) in
      let g_others : Passes (give K n w) (ArrayOf IntKind ∷ ss) (t f.read_as) (y ∷ xs) = subst (λ z. Passes (give K n w) (ArrayOf IntKind ∷ ss) (t z) (y ∷ xs)) (sym same) g.others in
      let f2 : First (give K n v) (ArrayOf IntKind) ss (t f.read_as) y xs = first_of (give K n v) (ArrayOf IntKind) ss (t f.read_as) y xs f.others in
      let g2 : First (give K n w) (ArrayOf IntKind) ss (t f.read_as) y xs = first_of (give K n w) (ArrayOf IntKind) ss (t f.read_as) y xs g_others in
      let (a, a_is, unit) = unit_of u is_unit in
      let s : SplitAt f.read_as i a =
      split_at (give K n v) (terms_in x) i u a f.read_as coefficient (term_keeps K n none v u (closed_of u (Int a) a_is) ∙ a_is) (are_ints (give K n v) x f.argument f.read_as f.is f.reads) in
      let r : DifferAt f2.read_as g2.read_as i v w =
      differ_at (terms_in y) i f2.read_as g2.read_as at parts_y.0 (are_ints (give K n v) y f2.argument f2.read_as f2.is f2.reads) (are_ints (give K n w) y g2.argument g2.read_as g2.is g2.reads) in
      let rest : f2.others.arguments ≡ g2.others.arguments = same_some f2.others.are g2.others.are (same_others K n none v w xs parts_y.1) in
      let passes_v : passes ss (t (s.before ++ a ∷ s.after) (r.before ++ r.left ∷ r.after)) f2.others.arguments ≡ true =
      subst₂ (λ A B. passes ss (t A B) f2.others.arguments ≡ true) s.splits r.left_splits f2.others.passed in
      let passes_w : passes ss (t (s.before ++ a ∷ s.after) (r.before ++ r.right ∷ r.after)) f2.others.arguments ≡ true =
      subst₂ (λ A B. passes ss (t A B) f2.others.arguments ≡ true) s.splits r.right_splits (subst (λ vs. passes ss (t f.read_as g2.read_as) vs ≡ true) (sym rest) g2.others.passed) in
      let equal : r.left ≡ r.right =
      both_at ss (t (s.before ++ a ∷ s.after) (r.before ++ r.left ∷ r.after)) (t (s.before ++ a ∷ s.after) (r.before ++ r.right ∷ r.after)) (r.left ≡ r.right)
      (d s.before r.before a r.left s.after r.after r.right (s.at ∙ sym r.at) unit) f2.others.arguments passes_v passes_w in
      r.left_is ∙ ap Int equal ∙ sym r.right_is
  term_determined ss t xs d c only p q = absurd d

-- ---- the result of a row

all_at : {A : Type 0} (P : A → Type 0) (xs : List A) (x : A) → AllByRecursion P xs → Contains xs x
    → P x
all_at P xs x h k = grind (arith, common_steps)

module _ (K : Partial) (n : ℕ) (none : value_at K n ≡ None) (v w : Value) where
  result_determined : (ss : List Shape) (t : Test ss) (xs : List Argument) (r : Result)
      → DeterminesResult ss t r → IsResult K xs n r
      → filter (is_open K) (flat_map terms_in xs) ≡ Var n ∷ [] → Passes (give K n v) ss t xs → Passes (give K n w) ss t xs → v ≡ w
  result_determined ss t xs NoResult d is only p q = absurd is
  result_determined ss t xs (Places ks) d (i, Among, k, at) only p q = determined_at K n none v w ss t xs i k (all_at (Determines ss t) ks i d Among) at only p q
  result_determined ss t xs UnitTerm d is only p q = term_determined K n none v w ss t xs d is only p q

-- ---- the point

-- what holds of a value that is there
pub some_of : {A : Type 0} (P : A → Type 0) (o : Option A) → IsSomeAnd o P
    → (x : A) × (o ≡ Some x) × P x
some_of P None h = absurd h
some_of P (Some x) h = (x, refl, h)

-- the sides of a definition that holds
pub definition_sides : (K : Partial) (x : Variable) (n : ℕ) (e : Term)
    → HoldsUnder K (DefinitionPoint x n e)
    → (u : Value) × (value_at K n ≡ Some u) × (value K e ≡ Some u)
definition_sides K x n e h = search (rules, some_of)

module _ (K : Partial) (n : ℕ) (none : value_at K n ≡ None) (v w : Value) where
  sides_determined : (x : Variable) (k : ℕ) (e : Term)
      → filter (is_open K) (Var k ∷ e ∷ []) ≡ Var n ∷ []
      → HoldsUnder (give K n v) (DefinitionPoint x k e) → HoldsUnder (give K n w) (DefinitionPoint x k e) → v ≡ w
  sides_determined x k e only p q =
      let (a, left_v, right_v) = definition_sides (give K n v) x k e p in
      let (b, left_w, right_w) = definition_sides (give K n w) x k e q in
      (elim (is_open K (Var k)) as (λ o. is_open K (Var k) ≡ o → cond o (Var k ∷ filter (is_open K) (e ∷ [])) (filter (is_open K) (e ∷ [])) ≡ Var n ∷ [] → v ≡ w) [
        | true ↦ λ _ only.
            let here : Var k ≡ Var n = cc in
            let closed : filter (is_open K) (e ∷ []) ≡ [] = cc in
            let keeps : value (give K n v) e ≡ value (give K n w) e = term_keeps K n none v e (filter-none (is_open K) e [] closed).0 ∙ sym (term_keeps K n none w e (filter-none (is_open K) e [] closed).0) in
            let equal : a ≡ b = same_some right_v right_w keeps in
            let is_v : a ≡ v = value_at_given K n v a (subst (λ t. value (give K n v) t ≡ Some a) here left_v) in
            let is_w : b ≡ w = value_at_given K n w b (subst (λ t. value (give K n w) t ≡ Some b) here left_w) in
            sym is_v ∙ equal ∙ is_w
        | false ↦ λ closed only.
            let here : e ≡ Var n = one_is_open e only in
            let keeps : value (give K n v) (Var k) ≡ value (give K n w) (Var k) = term_keeps K n none v (Var k) closed ∙ sym (term_keeps K n none w (Var k) closed) in
            let equal : a ≡ b = same_some left_v left_w keeps in
            let is_v : a ≡ v = value_at_given K n v a (subst (λ t. value (give K n v) t ≡ Some a) here right_v) in
            let is_w : b ≡ w = value_at_given K n w b (subst (λ t. value (give K n w) t ≡ Some b) here right_w) in
            sym is_v ∙ equal ∙ is_w
      ]) refl only
    where
      one_is_open : (t : Term) → filter (is_open K) (t ∷ []) ≡ Var n ∷ [] → t ≡ Var n
      one_is_open t e = elim (is_open K t) as (λ o. cond o (t ∷ []) [] ≡ Var n ∷ [] → t ≡ Var n) [ true ↦ λ e. cc | false ↦ λ e. cc ] e

-- the variable of a domain's point has its declared kind
abbrev pub PointFits : Model → Point → Type 0
PointFits m (DomainPoint x n) = kind_at m n ≡ Some x.kind
PointFits m _ = ⊤

pub as_number_of : (v : Value) → kind_of v ≡ IntKind → (a : ℤ) × (v ≡ Int a)
as_number_of v e = grind (arith, common_steps)

-- two values with which the domain of one number holds
number_determined : (K : Partial) (n : ℕ) (x : Variable) (v w : Value) → HasOneNumber x.domain
    → kind_of v ≡ IntKind → kind_of w ≡ IntKind
    → HoldsUnder (give K n v) (DomainPoint x n) → HoldsUnder (give K n w) (DomainPoint x n) → v ≡ w
number_determined K n x v w h v_int w_int p q =
    search (rules, some_of, as_number_of, value_at_given)

row_passes : (K : Partial) (xs : List Argument) (r : Row)
    → IsSomeAnd (argument_values K xs) (λ vs. IsTrue (row_holds r vs))
    → Passes K r.shapes r.holds xs
row_passes K xs r h = let (vs, are, passed) = some_of (λ vs. IsTrue (row_holds r vs)) (argument_values K xs) h in record { arguments = vs; are = are; passed = passed }

pub is_none_true : {A : Type 0} (o : Option A) → is_none o ≡ true → o ≡ None
is_none_true None e = refl
is_none_true (Some x) e = no' (sym e)

-- the only scalar without a value has none
pub only_open_none : (K : Partial) (n : ℕ) (ts : List Term) → filter (is_open K) ts ≡ Var n ∷ []
    → value_at K n ≡ None
only_open_none K n ts e = is_none_true (value_at K n) (filter-head (is_open K) ts [] (Var n) e)

-- A forced step's value is the only one of its kind with which the point holds.
pub only_value : (m : Model) (K : Partial) (p : Point) (n : ℕ) (v w : Value) → PointFits m p
    → Gives m K p n v → kind_of w ≡ kind_of v → HoldsUnder (give K n w) p → v ≡ w
only_value m K (DomainPoint x k) n v w fits g same q =
    let (here, is_int, single_number) = g.target in
    let kind : Some x.kind ≡ Some (kind_of v) = sym fits ∙ ap (kind_at m) here ∙ g.of_kind in
    let v_int : kind_of v ≡ IntKind = cc in
    number_determined K n x v w single_number v_int (same ∙ v_int)
    (subst (λ j. HoldsUnder (give K n v) (DomainPoint x j)) here g.then_holds)
    (subst (λ j. HoldsUnder (give K n w) (DomainPoint x j)) here q)
only_value m K (DefinitionPoint x k e) n v w fits g same q =
    sides_determined K n (only_open_none K n (Var k ∷ e ∷ []) g.only_open) v w x k e g.only_open g.then_holds q
only_value m K (ArrayPoint name d ts) n v w fits g same q = absurd g.target
only_value m K (ConstraintPoint k p) n v w fits g same q =
    (elim (row_of p) as (λ o. row_of p ≡ o → IsSomeAnd o (λ r. IsResult K p.arguments n (result_of r)) → IsSomeAnd o (λ r. IsSomeAnd (argument_values (give K n v) p.arguments) (λ vs. IsTrue (row_holds r vs)))
    → IsSomeAnd o (λ r. IsSomeAnd (argument_values (give K n w) p.arguments) (λ vs. IsTrue (row_holds r vs))) → v ≡ w) [
      | None ↦ λ _ is. absurd is
      | Some r ↦ λ found is d e.
          result_determined K n (only_open_none K n (flat_map terms_in p.arguments) g.only_open) v w r.shapes r.holds p.arguments (result_of r)
          (at_found RowDetermines (λ r. is_named (table_name p.name (length p.arguments)) r && fits_row r p.arguments) rows r rows_determine found) is g.only_open (row_passes (give K n v) p.arguments r d) (row_passes (give K n w) p.arguments r e)
    ]) refl g.target.1 g.then_holds q
