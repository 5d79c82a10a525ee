-- The start of a filling: printed values taken one after another.
use Rattle.std.proofs.Common.{◌≡◌, ℕ, zero, suc, ◌+◌, ◌<◌, true, false, not, cond, ◌==◌, List, [], ◌∷◌, ◌++◌, map, length, Option, Some, None, IsSomeAnd, is_none, refl, sym, ap, subst, ◌∙◌, arith, add-zero, zero-add, append_assoc, append-nil, eqb-true}
use Rattle.std.proofs.lemmas.Bool.{eqb-false}
use Rattle.std.proofs.lemmas.List.{length-map}
use Rattle.std.specs.Prelude.{Bool}
use Rattle.std.specs.List.{AllByRecursion}
use Rattle.std.specs.Option.{option_or}
use Rattle.fz_index.specs.of_model.of_base.declared.value.Value.{Value}
use Rattle.fz_index.specs.of_model.declared.Kind.{Kind}
use Rattle.fz_index.specs.of_model.declared.Term.{Term}
use Rattle.fz_index.specs.of_model.declared.Term.TheVariants.{Var, Fixed}
use Rattle.fz_index.specs.of_model.declared.What.{What}
use Rattle.fz_index.specs.of_model.declared.What.TheVariants as whats
use Rattle.fz_index.specs.of_model.Kinds.{TermFits, PlaceFits}
use Rattle.fz_index.specs.of_model.Names.{literal_value}
use Rattle.fz_index.specs.of_model.Partial.{nothing_for}
use Rattle.fz_index.specs.of_model.Shown.{scalar_terms, what_place}
use Rattle.fz_index.specs.of_model.Slots.{scalar_term}
use Rattle.fz_index.specs.of_model.Meaning.{Place, Variable, Model, Partial, value_at, variables_of, first_some, IsPartial, find_name}
use Rattle.fz_index.specs.of_model.Steps.{give}
use Rattle.fz_index.specs.of_model.Meaning.Place.{Scalar, Array}
use Rattle.fz_index.specs.of_model.Relations.{kind_of, same_kind}
use Rattle.fz_index.proofs.of_model.Lists.{all_map}
use Rattle.fz_index.proofs.of_model.NamedKinds.{PlaceIs, TermIs}
use Rattle.fz_index.proofs.of_model.Partials.{fits_length, give_fits, has_place}
use Rattle.fz_index.proofs.of_model.ScanSteps.{or_assoc, or_nothing}
use Rattle.fz_index.proofs.of_model.Scope.{same_kind_is}
use Rattle.fz_index.proofs.of_model.Valued.{same_as_itself}
use Rattle.fz_stream.specs.of_syntax.Span.{Span}
use Rattle.fz_stream.specs.of_syntax.Tree.{Literal, Printed, PrintedValue, OneValue, ArrayOf}
use Rattle.fz_stream.specs.of_syntax.View.{bare_items, bare_literal, bare_printed, bare_printed_value}
use Rattle.fz_stream.specs.of_syntax.declared.Literal as the_literal
use Rattle.fz_stream.specs.of_syntax.declared.Name as the_name
use Rattle.fz_stream.specs.of_syntax.declared.Printed as the_printed
use Rattle.fz_stream.specs.of_syntax.declared.PrintedValue as the_value
use Rattle.fz_stream.specs.of_syntax.declared.PrintedValue.TheVariants as printed
use Rattle.fz_filling.specs.BlockFaults.{AllFit, BlockFault, BlockFaultKind, Fits, ItemFits, fault_if, items_fault, literal_fault, printed_fault, value_fault}
use Rattle.fz_filling.specs.BlockFaults.BlockFaultKind.{UnknownName, WrongKind, WrongLength}
use Rattle.fz_filling.specs.Filling.{pairs, pairs_at, printed_scalars, if_var, first_printed, start_from}
use Rattle.fz_filling.proofs.Accepted.{or_none}
use Rattle.fz_filling.specs.Working.{HasRoom, IsWithin, terms_of_what, with_first, with_all, item_scalars}

-- ---- one more value

printed_more : (qs : List (Term × Value)) (q : Term × Value) (n : ℕ)
    → first_printed (qs ++ q ∷ []) n ≡ option_or (first_printed qs n) (if_var n q)
printed_more [] q n = or_nothing (if_var n q)
printed_more (p ∷ qs) q n = ap (option_or (if_var n p)) (printed_more qs q n) ∙ sym (or_assoc (if_var n p) (first_printed qs n) (if_var n q))

other_number : (k n : ℕ) (v : Value) → (k ≡ n → ⊥) → if_var n (Var k, v) ≡ None
other_number k n v h = (elim (k == n) as (λ b. (k == n) ≡ b → cond b (Some v) None ≡ None) [ true ↦ λ e. absurd (h (eqb-true k n e)) | false ↦ λ _. refl ]) refl

own_number : (n : ℕ) (v : Value) → if_var n (Var n, v) ≡ Some v
own_number n v = (elim (n == n) as (λ b. (n == n) ≡ b → cond b (Some v) None ≡ Some v) [ true ↦ λ _. refl | false ↦ λ e. absurd (eqb-false n n e refl) ]) refl

-- no variable with an earlier number is meant
earlier : (qs : List (Term × Value)) (k : ℕ) (v : Value) (n : ℕ) (xs : List Variable) → k < n
    → start_from (qs ++ (Var k, v) ∷ []) n xs ≡ start_from qs n xs
earlier qs k v n [] h = refl
earlier qs k v n (x ∷ xs) h = λ i.
    (printed_more qs (Var k, v) n ∙ ap (option_or (first_printed qs n)) (other_number k n v (λ e. omega arith)) ∙ or_nothing (first_printed qs n)) i ∷ earlier qs k v (suc n) xs (omega arith) i

fixed_more : (qs : List (Term × Value)) (w v : Value) (n : ℕ) (xs : List Variable)
    → start_from (qs ++ (Fixed w, v) ∷ []) n xs ≡ start_from qs n xs
fixed_more qs w v n [] = refl
fixed_more qs w v n (x ∷ xs) = λ i. (printed_more qs (Fixed w, v) n ∙ or_nothing (first_printed qs n)) i ∷ fixed_more qs w v (suc n) xs i

variable_more : (qs : List (Term × Value)) (n j : ℕ) (v : Value) (xs : List Variable)
    → start_from (qs ++ (Var (n + j), v) ∷ []) n xs ≡ cond
    (is_none (value_at (start_from qs n xs) j)) (give (start_from qs n xs) j v) (start_from qs n xs)
variable_more qs n j v [] = nothing_there (is_none (value_at [] j))
  where
    nothing_there : (b : Bool) → ◌≡◌ {A = Partial} [] (cond b [] [])
    nothing_there true = refl
    nothing_there false = refl
variable_more qs n zero v (x ∷ xs) =
    let number : n + 0 ≡ n = add-zero n in
    let rest : start_from (qs ++ (Var (n + 0), v) ∷ []) (suc n) xs ≡ start_from qs (suc n) xs = earlier qs (n + 0) v (suc n) xs (omega arith) in
    let here : first_printed (qs ++ (Var (n + 0), v) ∷ []) n ≡ option_or (first_printed qs n) (Some v) =
    printed_more qs (Var (n + 0), v) n ∙ ap (λ k. option_or (first_printed qs n) (if_var n (Var k, v))) number ∙ ap (option_or (first_printed qs n)) (own_number n v) in
    (λ i. here i ∷ rest i) ∙ by_first (first_printed qs n) (start_from qs (suc n) xs)
  where
    by_first : (o : Option Value) (K : Partial)
        → option_or o (Some v) ∷ K ≡ cond (is_none (value_at (o ∷ K) 0)) (give (o ∷ K) 0 v) (o ∷ K)
    by_first None K = refl
    by_first (Some u) K = refl
variable_more qs n (suc j) v (x ∷ xs) =
    let count : n + suc j ≡ suc n + j = omega arith in
    let here : first_printed (qs ++ (Var (n + suc j), v) ∷ []) n ≡ first_printed qs n =
    printed_more qs (Var (n + suc j), v) n ∙ ap (option_or (first_printed qs n)) (other_number (n + suc j) n v (λ e. omega arith)) ∙ or_nothing (first_printed qs n) in
    let rest : start_from (qs ++ (Var (n + suc j), v) ∷ []) (suc n) xs ≡ cond (is_none (value_at (start_from qs (suc n) xs) j)) (give (start_from qs (suc n) xs) j v) (start_from qs (suc n) xs) =
    ap (λ k. start_from (qs ++ (Var k, v) ∷ []) (suc n) xs) count ∙ variable_more qs (suc n) j v xs in
    (λ i. here i ∷ rest i) ∙ past (first_printed qs n) (start_from qs (suc n) xs) (is_none (value_at (start_from qs (suc n) xs) j))
  where
    past : (o : Option Value) (K : Partial) (b : Bool)
        → o ∷ cond b (give K j v) K ≡ cond b (give (o ∷ K) (suc j) v) (o ∷ K)
    past o K true = refl
    past o K false = refl

-- one more printed scalar
pub start_one_more : (qs : List (Term × Value)) (q : Term × Value) (xs : List Variable)
    → start_from (qs ++ q ∷ []) 0 xs ≡ with_first (start_from qs 0 xs) q
start_one_more qs (Fixed w, v) xs = fixed_more qs w v 0 xs
start_one_more qs (Var k, v) xs =
    let number : 0 + k ≡ k = zero-add k in
    ap (λ j. start_from (qs ++ (Var j, v) ∷ []) 0 xs) (sym number) ∙ variable_more qs 0 k v xs

-- several
pub start_more : (qs rs : List (Term × Value)) (xs : List Variable)
    → start_from (qs ++ rs) 0 xs ≡ with_all (start_from qs 0 xs) rs
start_more qs [] xs = ap (λ ps. start_from ps 0 xs) (append-nil qs)
start_more qs (r ∷ rs) xs =
    ap (λ ps. start_from ps 0 xs) (sym (append_assoc qs (r ∷ []) rs)) ∙ start_more (qs ++ r ∷ []) rs xs ∙ ap (λ K. with_all K rs) (start_one_more qs r xs)

none_printed : (n : ℕ) (xs : List Variable) → map (λ x. None) xs ≡ start_from [] n xs
none_printed n [] = refl
none_printed n (x ∷ xs) = ap (λ K. None ∷ K) (none_printed (suc n) xs)

-- ---- the room of a spare assignment

same_nothing : {A B C : Type 0} (xs : List A) (ys : List B) → length xs ≡ length ys → ◌≡◌ {A = List (Option C)} (map (λ x. None) xs) (map (λ y. None) ys)
same_nothing [] [] h = refl
same_nothing [] (y ∷ ys) h = cc
same_nothing (x ∷ xs) [] h = cc
same_nothing (x ∷ xs) (y ∷ ys) h = ap (λ K. None ∷ K) (same_nothing xs ys (omega arith))

-- without its values it is the one where nothing has a value
pub cleared_is_nothing : (m : Model) (K : Partial) → HasRoom m K → ◌≡◌ {A = Partial} (map (λ v. None) K) (nothing_for m)
cleared_is_nothing m K room = same_nothing K (variables_of m) room

-- ---- kinds

-- what is filled in has a place for each variable
pub has_room : (m : Model) (K : Partial) → IsPartial m K → HasRoom m K
has_room m K fits = fits_length (variables_of m) K fits

-- where a printed item has no fault, it fits
no_fault : (b : Bool) (k : BlockFaultKind) (at : Span) → fault_if (not b) k at ≡ None → b ≡ true
no_fault true k at e = refl
no_fault false k at e = cc

literal_fits : (k : Kind) (l : the_literal.Literal) → literal_fault k l ≡ None
    → kind_of (literal_value (bare_literal l)) ≡ k
literal_fits k l e = same_kind_is _ k (no_fault (same_kind (kind_of (literal_value (bare_literal l))) k) WrongKind l.span e)

literals_fit : (k : Kind) (ls : List the_literal.Literal) → first_some (literal_fault k) ls ≡ None
    → AllByRecursion (λ l. kind_of (literal_value l) ≡ k) (map bare_literal ls)
literals_fit k [] e = tt
literals_fit k (l ∷ ls) e = let (here, rest) = or_none (literal_fault k l) _ e in (literal_fits k l here, literals_fit k ls rest)

pub value_fits : (x : the_name.Name) (p : Place) (v : the_value.PrintedValue)
    → value_fault x p v ≡ None → Fits p (bare_printed_value v)
value_fits x (Scalar k t) (printed.One l) e = literal_fits k l e
value_fits x (Scalar k t) (printed.Array is ls) e = cc
value_fits x (Array y k ts) (printed.One l) e = cc
value_fits x (Array y k ts) (printed.Array is ls) e =
    let (as_many, kinds) = or_none (fault_if (not (length ls.items == length ts)) WrongLength x.span) (first_some (literal_fault k) ls.items) e in
    (length-map ls.items bare_literal ∙ eqb-true (length ls.items) (length ts) (no_fault (length ls.items == length ts) WrongLength x.span as_many), literals_fit k ls.items kinds)

place_fits : (x : the_name.Name) (o : Option Place) (v : the_value.PrintedValue)
    → ◌≡◌ {A = Option BlockFault} (elim o [ None ↦ Some (record { kind = UnknownName; at = x.span }) | Some p ↦ value_fault x p v ]) None
    → IsSomeAnd o (λ p. Fits p (bare_printed_value v))
place_fits x None v e = cc
place_fits x (Some p) v e = value_fits x p v e

item_fits : (m : Model) (i : the_printed.Printed) → printed_fault m i ≡ None
    → ItemFits m (bare_printed i)
item_fits m i e = place_fits i.name (find_name m i.name.text.now) i.value e

pub items_fit : (m : Model) (items : List the_printed.Printed) → items_fault m items ≡ None
    → AllFit m (bare_items items)
items_fit m [] e = tt
items_fit m (i ∷ items) e = let (here, rest) = or_none (printed_fault m i) _ e in (item_fits m i here, items_fit m items rest)

-- and one that fits has none
clean : (b : Bool) (k : BlockFaultKind) (at : Span) → b ≡ true → fault_if (not b) k at ≡ None
clean true k at e = refl
clean false k at e = cc

literal_clean : (k : Kind) (l : the_literal.Literal) → kind_of (literal_value (bare_literal l)) ≡ k
    → literal_fault k l ≡ None
literal_clean k l e =
    let own = kind_of (literal_value (bare_literal l)) in
    clean (same_kind own k) WrongKind l.span (subst (λ j. same_kind own j ≡ true) e (same_as_itself own))

literals_clean : (k : Kind) (ls : List the_literal.Literal)
    → AllByRecursion (λ l. kind_of (literal_value l) ≡ k) (map bare_literal ls)
    → first_some (literal_fault k) ls ≡ None
literals_clean k [] h = refl
literals_clean k (l ∷ ls) h = λ i. option_or (literal_clean k l h.0 i) (literals_clean k ls h.1 i)

same_count : (n k : ℕ) → n ≡ k → (n == k) ≡ true
same_count n k e = (elim (n == k) as (λ b. (n == k) ≡ b → b ≡ true) [ true ↦ λ _. refl | false ↦ λ other. absurd (eqb-false n k other e) ]) refl

value_clean : (x : the_name.Name) (p : Place) (v : the_value.PrintedValue)
    → Fits p (bare_printed_value v) → value_fault x p v ≡ None
value_clean x (Scalar k t) (printed.One l) h = literal_clean k l h
value_clean x (Scalar k t) (printed.Array is ls) h = absurd h
value_clean x (Array y k ts) (printed.One l) h = absurd h
value_clean x (Array y k ts) (printed.Array is ls) h =
    let as_many = clean (length ls.items == length ts) WrongLength x.span (same_count (length ls.items) (length ts) (sym (length-map ls.items bare_literal) ∙ h.0)) in
    λ i. option_or (as_many i) (literals_clean k ls.items h.1 i)

place_clean : (x : the_name.Name) (o : Option Place) (v : the_value.PrintedValue)
    → IsSomeAnd o (λ p. Fits p (bare_printed_value v))
    → ◌≡◌ {A = Option BlockFault} (elim o [ None ↦ Some (record { kind = UnknownName; at = x.span }) | Some p ↦ value_fault x p v ]) None
place_clean x None v h = absurd h
place_clean x (Some p) v h = value_clean x p v h

pub items_clean : (m : Model) (items : List the_printed.Printed) → AllFit m (bare_items items)
    → items_fault m items ≡ None
items_clean m [] h = refl
items_clean m (i ∷ items) h = λ j. option_or (place_clean i.name (find_name m i.name.text.now) i.value h.0 j) (items_clean m items h.1 j)

module _ (Is : Kind → Value → Type 0) (m : Model) where
  -- a variable has the kind of the value that is printed for it, and a stored value is as said
  abbrev pub PairFits : (Term × Value) → Type 0
  PairFits q = TermIs Is m (kind_of q.1) q.0

  first_fits : (K : Partial) (q : Term × Value) → IsPartial m K → PairFits q
      → IsPartial m (with_first K q)
  first_fits K (Fixed w, v) h fits = h
  first_fits K (Var n, v) h fits =
      elim (is_none (value_at K n)) as (λ b. IsPartial m (cond b (give K n v) K)) [
        | true ↦ give_fits (variables_of m) K n v h fits
        | false ↦ h
      ]

  pub all_fit : (K : Partial) (qs : List (Term × Value)) → IsPartial m K
      → AllByRecursion PairFits qs → IsPartial m (with_all K qs)
  all_fit K [] h fits = h
  all_fit K (q ∷ qs) h fits = all_fit (with_first K q) qs (first_fits K q h fits.0) fits.1

  pairs_fit : (k : Kind) (ts : List Term) (ls : List Literal)
      → AllByRecursion (TermIs Is m k) ts → AllByRecursion (λ l. kind_of (literal_value l) ≡ k) ls
      → AllByRecursion PairFits (pairs ts (map literal_value ls))
  pairs_fit k [] ls h e = tt
  pairs_fit k (t ∷ ts) [] h e = tt
  pairs_fit k (t ∷ ts) (l ∷ ls) h e = (subst (λ j. TermIs Is m j t) (sym e.0) h.0, pairs_fit k ts ls h.1 e.1)

  pub place_pairs_fit : (p : Place) (v : PrintedValue) → PlaceIs Is m p → Fits p v
      → AllByRecursion PairFits (pairs_at p v)
  place_pairs_fit (Scalar k t) (OneValue l) h e = (subst (λ j. TermIs Is m j t) (sym e) h, tt)
  place_pairs_fit (Scalar k t) (ArrayOf is ls) h e = tt
  place_pairs_fit (Array y k ts) (OneValue l) h e = tt
  place_pairs_fit (Array y k ts) (ArrayOf is ls) h e = pairs_fit k ts ls h e.1

-- ---- numbers

term_within : (m : Model) (K : Partial) (k : Kind) (t : Term) → IsPartial m K → TermFits m k t
    → IsWithin (length K) t
term_within m K k (Var n) h fits = has_place m K n k h fits
term_within m K k (Fixed v) h fits = tt

-- what a name stands for has numbers of variables
pub what_within : (m : Model) (K : Partial) (vs : List Variable) (x : List ℕ) (w : What)
    → IsPartial m K → PlaceFits m (what_place vs x w)
    → AllByRecursion (IsWithin (length K)) (terms_of_what w)
what_within m K vs x (whats.Scalar s) h fits = (term_within m K _ (scalar_term s) h fits, tt)
what_within m K vs x (whats.Array k ts) h fits = all_map (TermFits m k) (IsWithin (length K)) (λ t fit. term_within m K k t h fit) (scalar_terms ts) fits

-- ---- the items of a block

scalars_append : (m : Model) (xs ys : List Printed)
    → printed_scalars m (xs ++ ys) ≡ printed_scalars m xs ++ printed_scalars m ys
scalars_append m [] ys = refl
scalars_append m (x ∷ xs) ys = ap (λ qs. item_scalars m x ++ qs) (scalars_append m xs ys) ∙ sym (append_assoc (item_scalars m x) (printed_scalars m xs) (printed_scalars m ys))

pub starts_with_nothing : (m : Model) → nothing_for m ≡ start_from [] 0 (variables_of m)
starts_with_nothing m = none_printed 0 (variables_of m)

pub scalars_more : (m : Model) (xs : List Printed) (i : Printed)
    → printed_scalars m (xs ++ i ∷ []) ≡ printed_scalars m xs ++ item_scalars m i
scalars_more m xs i = scalars_append m xs (i ∷ []) ∙ ap (λ qs. printed_scalars m xs ++ qs) (append-nil (item_scalars m i))

-- one more item
pub start_item_more : (m : Model) (xs : List Printed) (i : Printed) (K L : Partial)
    → K ≡ start_from (printed_scalars m xs) 0 (variables_of m) → L ≡ with_all K (item_scalars m i)
    → L ≡ start_from (printed_scalars m (xs ++ i ∷ [])) 0 (variables_of m)
start_item_more m xs i K L before new =
    new ∙ ap (λ J. with_all J (item_scalars m i)) before ∙ sym (start_more (printed_scalars m xs) (item_scalars m i) (variables_of m)) ∙ ap (λ qs. start_from qs 0 (variables_of m)) (sym (scalars_more m xs i))
