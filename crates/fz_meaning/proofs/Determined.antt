-- In each row of the table an argument that `defines_var` may fill is determined by the others: two
-- values of it with which the row holds are equal. Of `int_lin_eq` this is said of one element of
-- the second array with the coefficient 1 or -1.
use Rattle.std.proofs.Common.{◌≡◌, ℕ, suc, zero, ℤ, pos, negsuc, ◌+ℤ◌, ◌-ℤ◌, ◌*ℤ◌, neg_ℤ, Bool, true, false, not, ◌&&◌, ◌||◌, cond, List, [], ◌∷◌, ◌++◌, map, length, find, Option, Some, None, refl, sym, ap, subst, ◌∙◌, arith, int_le, int_div, int_rem, unsigned_abs, ◌⊎◌, rules}
use Rattle.std.specs.Prelude.{⊤}
use Rattle.std.proofs.lemmas.Int.{ints}
use Rattle.std.proofs.Math.IntN.{*ℤ_comm, *ℤ-one, *ℤ-negsuc}
use Rattle.std.specs.List.{AllByRecursion, list_any, list_all, filter, zip}
use Rattle.std.specs.Option.{option_map_or}
use Rattle.std.specs.Int.{int_min, int_max, int_pow}
use Rattle.std.specs.FinSet as sets
use Rattle.std.proofs.lemmas.Bool.Decides.{nat_tests}
use Rattle.std.proofs.lemmas.Grind.{common_steps}
use Rattle.fz_meaning.specs.Relations.{◌=ℤ◌, ◌=ᴮ◌, ◌=ˢ◌, products, total, as_number, is_among, element_at, where_true, count_in, count_of, index_from, is_index_of_best, is_weight_of, all_different, values_of, chosen, indices_from, union_of}
use Rattle.fz_meaning.specs.Builtins.{Shape, Of, Plain, Test, Row, base_rows, builtins, implied, reified, row_at, rows, rows_with_forms, with_bool, with_truth}
use Rattle.fz_meaning.specs.Builtins.Shape.{ScalarOf, ArrayOf}
use Rattle.fz_meaning.specs.Results.{Result, result_of}
use Rattle.fz_meaning.specs.Results.Result.{NoResult, Places, UnitTerm}
use Rattle.fz_meaning.proofs.Lists.{all_append}
use Rattle.fz_meaning.proofs.WithTruth.{reified_result}
use Rattle.fz_meaning.proofs.Values.{no, and_first, and_second, int_itself, same_int, same_bool, same_set_is}
use Rattle.fz_meaning.specs.declared.builtin.Builtin.{Builtin}
use Rattle.fz_meaning.specs.declared.builtin.Builtin.TheVariants.{GecodeMaximumArgIntOffset, GecodeMinimumArgIntOffset, GecodeMaximumArgBoolOffset, GecodeSetWeights, GecodeRange, FznCountEq, FznAmong, FznNvalue, IntEq, IntLinEq, IntPlus, IntMinus, IntTimes, IntMin, IntMax, IntAbs, IntNegate, IntDiv, IntMod, IntPow, ArrayIntElement, ArrayIntMaximum, ArrayIntMinimum, BoolEq, BoolNot, BoolAnd, BoolOr, BoolXor, ArrayBoolAnd, ArrayBoolOr, ArrayBoolElement, Bool2Int, BoolLinEq, SetEq, SetUnion, SetIntersect, SetDiff, SetSymdiff, SetCard, ArraySetElement, GecodeArraySetElementUnion}
use Rattle.fz_meaning.specs.declared.kind.Kind.TheVariants.{Int as IntKind}
use Rattle.fz_base.specs.Sets.{NumberSet, symmetric_difference}

-- where both tests pass of any arguments, P
abbrev pub Both : (ss : List Shape) → Test ss → Test ss → Type 0 → Type 0
Both [] t u P = t ≡ true → u ≡ true → P
Both (s ∷ ss) t u P = (x : Of s) → Both ss (t x) (u x) P

-- the argument at the index, which is a scalar, is determined by the others
abbrev pub DeterminesHere : (s : Shape) (ss : List Shape) → (Of s → Test ss) → Type 0
DeterminesHere (ScalarOf k) ss t = (x y : Plain k) → Both ss (t x) (t y) (x ≡ y)
DeterminesHere (ArrayOf k) ss t = ⊥

abbrev pub Determines : (ss : List Shape) → Test ss → ℕ → Type 0
Determines [] t i = ⊥
Determines (s ∷ ss) t zero = DeterminesHere s ss t
Determines (s ∷ ss) t (suc i) = (x : Of s) → Determines ss (t x) i

-- the same of one element of the second array, with its coefficient 1 or -1
abbrev pub IsUnit : ℤ → Type 0
IsUnit a = (a ≡ pos 1) ⊎ (a ≡ negsuc 0)

abbrev pub DeterminesTerm : (ss : List Shape) → Test ss → Type 0
DeterminesTerm (ArrayOf IntKind ∷ ArrayOf IntKind ∷ ss) t =
    (as' bs : List ℤ) (a x : ℤ) (cs ds : List ℤ) (y : ℤ) → length as' ≡ length bs → IsUnit a
    → Both ss (t (as' ++ a ∷ cs) (bs ++ x ∷ ds)) (t (as' ++ a ∷ cs) (bs ++ y ∷ ds)) (x ≡ y)
DeterminesTerm _ t = ⊥

abbrev pub DeterminesResult : (ss : List Shape) → Test ss → Result → Type 0
DeterminesResult ss t NoResult = ⊤
DeterminesResult ss t (Places is) = AllByRecursion (Determines ss t) is
DeterminesResult ss t UnitTerm = DeterminesTerm ss t

abbrev pub RowDetermines : Row → Type 0
RowDetermines r = DeterminesResult r.shapes r.holds (result_of r)

-- ---- the rows

int_both : (x y z : ℤ) → (x =ℤ z) ≡ true → (y =ℤ z) ≡ true → x ≡ y
int_both x y z d e = same_int x z d ∙ sym (same_int y z e)

int_both' : (x y z : ℤ) → (z =ℤ x) ≡ true → (z =ℤ y) ≡ true → x ≡ y
int_both' x y z d e = sym (same_int z x d) ∙ same_int z y e

bool_both : (x y z : Bool) → (x =ᴮ z) ≡ true → (y =ᴮ z) ≡ true → x ≡ y
bool_both x y z d e = same_bool x z d ∙ sym (same_bool y z e)

bool_both' : (x y z : Bool) → (z =ᴮ x) ≡ true → (z =ᴮ y) ≡ true → x ≡ y
bool_both' x y z d e = sym (same_bool z x d) ∙ same_bool z y e

set_both : (x y z : NumberSet) → (x =ˢ z) ≡ true → (y =ˢ z) ≡ true → x ≡ y
set_both x y z d e = same_set_is x z d ∙ sym (same_set_is y z e)

set_both' : (x y z : NumberSet) → (z =ˢ x) ≡ true → (z =ˢ y) ≡ true → x ≡ y
set_both' x y z d e = sym (same_set_is z x d) ∙ same_set_is z y e

not_both : (x y z : Bool) → not (x =ᴮ z) ≡ true → not (y =ᴮ z) ≡ true → x ≡ y
not_both x y z d e = grind (arith, common_steps, no)

not_both' : (x y z : Bool) → not (z =ᴮ x) ≡ true → not (z =ᴮ y) ≡ true → x ≡ y
not_both' x y z d e = grind (arith, common_steps, no)

number_both : (x y : Bool) (n : ℤ) → (n =ℤ as_number x) ≡ true → (n =ℤ as_number y) ≡ true → x ≡ y
number_both x y n d e = grind (arith, common_steps, same_int)

-- one element
element_both : {A : Type 0} (same : A → A → Bool) → ((x y z : A) → same z x ≡ true → same z y ≡ true
    → x ≡ y) → (o : Option A) (x y : A) → option_map_or (λ w. same w x) o false ≡ true
    → option_map_or (λ w. same w y) o false ≡ true → x ≡ y
element_both same is None x y d e = no d
element_both same is (Some w) x y d e = is x y w d e

-- the greatest, and the least
module _ (below : ℤ → ℤ → Bool) (antisymmetric : (x y : ℤ) → below x y ≡ true → below y x ≡ true → x ≡ y) where
  each_at : (x : ℤ) (b : List ℤ) → list_any (λ z. z =ℤ x) b ≡ true → (t : ℤ → Bool)
      → list_all t b ≡ true → t x ≡ true
  each_at x [] is t all = no is
  each_at x (z ∷ b) is t all =
      elim (z =ℤ x) as (λ r. (z =ℤ x) ≡ r → (r || list_any (λ z. z =ℤ x) b) ≡ true → t x ≡ true) [
        | true ↦ λ e _. subst (λ w. t w ≡ true) (same_int z x e) (and_first (t z) (list_all t b) all)
        | false ↦ λ _ is. each_at x b is t (and_second (t z) (list_all t b) all)
      ] refl is

  extreme_both : (b : List ℤ) (x y : ℤ) → (is_among x b && list_all (λ z. below z x) b) ≡ true
      → (is_among y b && list_all (λ z. below z y) b) ≡ true → x ≡ y
  extreme_both b x y d e = search (rules, each_at, and_first, and_second)

  -- the index of the best
  any_found : (p : ℤ → Bool) (b : List ℤ) → list_any p b ≡ true
      → (m : ℤ) × ((p m ≡ true) × (is_among m b ≡ true))
  any_found p [] e = no e
  any_found p (z ∷ b) e =
      elim (p z) as (λ r. p z ≡ r → (r || list_any p b) ≡ true → (m : ℤ) × ((p m ≡ true) × (is_among m (z ∷ b) ≡ true))) [
        | true ↦ λ h _. (z, (h, ap (λ r. r || is_among z b) (int_itself z)))
        | false ↦ λ _ e. let (m, (h, is)) = any_found p b e in (m, (h, behind (z =ℤ m) (is_among m b) is))
      ] refl e
    where
      behind : (p q : Bool) → q ≡ true → (p || q) ≡ true
      behind true q h = refl
      behind false q h = h

  index_both : (b : List ℤ) (o x y : ℤ) → is_index_of_best below b o x ≡ true
      → is_index_of_best below b o y ≡ true → x ≡ y
  index_both b o x y d e =
      let (m, (h, is)) = any_found (λ m. list_all (λ z. below z m) b && option_map_or (λ j. j =ℤ x) (index_from o b m) false) b d in
      let (n, (k, also)) = any_found (λ m. list_all (λ z. below z m) b && option_map_or (λ j. j =ℤ y) (index_from o b m) false) b e in
      let same : m ≡ n = antisymmetric m n (each_at m b is (λ z. below z n) (and_first _ _ k)) (each_at n b also (λ z. below z m) (and_first _ _ h)) in
      element_both ◌=ℤ◌ int_both' (index_from o b n) x y
      (subst (λ z. option_map_or (λ j. j =ℤ x) (index_from o b z) false ≡ true) same (and_second (list_all (λ z. below z m) b) _ h))
      (and_second (list_all (λ z. below z n) b) _ k)

pub int_le_antisymmetric : (x y : ℤ) → int_le x y ≡ true → int_le y x ≡ true → x ≡ y
int_le_antisymmetric x y d e = grind (arith, ints)

plus_assoc : (p q r : ℤ) → p +ℤ (q +ℤ r) ≡ (p +ℤ q) +ℤ r
plus_assoc p q r = omega (arith, ints)

-- ---- the sum of products, at one element

sum_at : (as' bs : List ℤ) (a x : ℤ) (cs ds : List ℤ) → length as' ≡ length bs
    → total (products (as' ++ a ∷ cs) (bs ++ x ∷ ds))
    ≡ total (products as' bs) +ℤ ((a *ℤ x) +ℤ total (products cs ds))
sum_at [] [] a x cs ds e = omega (arith, ints)
sum_at (b ∷ as') (d ∷ bs) a x cs ds e =
    let same : length as' ≡ length bs = omega arith in
    let rest : total (products (as' ++ a ∷ cs) (bs ++ x ∷ ds)) ≡ total (products as' bs) +ℤ ((a *ℤ x) +ℤ total (products cs ds)) = sum_at as' bs a x cs ds same in
    ap (λ t. (b *ℤ d) +ℤ t) rest ∙ plus_assoc (b *ℤ d) (total (products as' bs)) ((a *ℤ x) +ℤ total (products cs ds))
sum_at _ _ a x cs ds e = absurd (omega arith)

one_times : (x : ℤ) → pos 1 *ℤ x ≡ x
unfolding lib.IntN.one
one_times x = *ℤ_comm (pos 1) x ∙ *ℤ-one x

less_one_times : (x : ℤ) → negsuc 0 *ℤ x ≡ neg_ℤ x
unfolding lib.IntN.one
less_one_times x = *ℤ_comm (negsuc 0) x ∙ *ℤ-negsuc x 0 ∙ ap neg_ℤ (*ℤ-one x)

times_unit : (a x y p q : ℤ) → IsUnit a → p +ℤ ((a *ℤ x) +ℤ q) ≡ p +ℤ ((a *ℤ y) +ℤ q) → x ≡ y
times_unit a x y p q h e = grind (arith, ints, nat_tests, one_times, neg_ℤ, less_one_times)

term_both : DeterminesTerm (ArrayOf IntKind ∷ ArrayOf IntKind ∷ ScalarOf IntKind ∷ [])
    (λ a b c. total (products a b) =ℤ c)
term_both as' bs a x cs ds y same u c d e =
    times_unit a x y (total (products as' bs)) (total (products cs ds)) u
    (sym (sum_at as' bs a x cs ds same) ∙ same_int _ c d ∙ sym (same_int _ c e) ∙ sum_at as' bs a y cs ds same)

-- ---- the weight of a set

abbrev weight : List ℤ → List ℤ → NumberSet → ℤ
weight a b c = total (map (λ p. p.1) (filter (λ p. sets.contains c p.0) (zip a b)))

weighs : (a b : List ℤ) (c : NumberSet) (n : ℤ) → is_weight_of a b c n ≡ true
    → (n =ℤ weight a b c) ≡ true
weighs a b c n e = and_second (all_different a && sets.is_subset c (sets.from_list a)) _ e

-- ---- the table

row_determines : (b : Builtin) → RowDetermines (row_at b)
unfolding row_at result_of
row_determines IntEq = ((λ x y b. int_both x y b), ((λ a x y. int_both' x y a), tt))
row_determines IntLinEq = term_both
row_determines IntPlus = ((λ a b x y. int_both x y (a +ℤ b)), tt)
row_determines IntMinus = ((λ a b x y. int_both x y (a -ℤ b)), tt)
row_determines IntTimes = ((λ a b x y. int_both x y (a *ℤ b)), tt)
row_determines IntMin = ((λ a b x y. int_both x y (int_min a b)), tt)
row_determines IntMax = ((λ a b x y. int_both x y (int_max a b)), tt)
row_determines IntAbs = ((λ a x y. int_both x y (pos (unsigned_abs a))), tt)
row_determines IntNegate = ((λ a x y. int_both x y (pos 0 -ℤ a)), tt)
row_determines IntDiv = ((λ a b x y d e. int_both x y (int_div a b) (and_second (not (b =ℤ pos 0)) _ d) (and_second (not (b =ℤ pos 0)) _ e)), tt)
row_determines IntMod = ((λ a b x y d e. int_both x y (int_rem a b) (and_second (not (b =ℤ pos 0)) _ d) (and_second (not (b =ℤ pos 0)) _ e)), tt)
row_determines IntPow = ((λ a b x y d e. int_both x y (int_pow a (unsigned_abs b)) (and_second (int_le (pos 0) b) _ d) (and_second (int_le (pos 0) b) _ e)), tt)
row_determines ArrayIntElement = ((λ a b x y. element_both ◌=ℤ◌ int_both' (element_at b a) x y), tt)
row_determines ArrayIntMaximum = ((λ x y b. extreme_both int_le int_le_antisymmetric b x y), tt)
row_determines ArrayIntMinimum = ((λ x y b. extreme_both (λ z w. int_le w z) (λ z w d e. int_le_antisymmetric z w e d) b x y), tt)
row_determines BoolEq = ((λ x y b. bool_both x y b), ((λ a x y. bool_both' x y a), tt))
row_determines BoolNot = ((λ x y b. not_both x y b), ((λ a x y. not_both' x y a), tt))
row_determines BoolAnd = ((λ a b x y. bool_both x y (a && b)), tt)
row_determines BoolOr = ((λ a b x y. bool_both x y (a || b)), tt)
row_determines BoolXor = ((λ a b x y. bool_both x y (not (a =ᴮ b))), tt)
row_determines ArrayBoolAnd = ((λ a x y. bool_both x y (list_all (λ z. z) a)), tt)
row_determines ArrayBoolOr = ((λ a x y. bool_both x y (list_any (λ z. z) a)), tt)
row_determines ArrayBoolElement = ((λ a b x y. element_both ◌=ᴮ◌ bool_both' (element_at b a) x y), tt)
row_determines Bool2Int = ((λ x y b. number_both x y b), ((λ a x y. int_both x y (as_number a)), tt))
row_determines BoolLinEq = ((λ a b x y. int_both' x y (total (where_true a b))), tt)
row_determines SetEq = ((λ x y b. set_both x y b), ((λ a x y. set_both' x y a), tt))
row_determines SetUnion = ((λ a b x y. set_both x y (sets.union a b)), tt)
row_determines SetIntersect = ((λ a b x y. set_both x y (sets.intersection a b)), tt)
row_determines SetDiff = ((λ a b x y. set_both x y (sets.difference a b)), tt)
row_determines SetSymdiff = ((λ a b x y. set_both x y (symmetric_difference a b)), tt)
row_determines SetCard = ((λ a x y. int_both x y (pos (sets.len a))), tt)
row_determines ArraySetElement = ((λ a b x y. element_both ◌=ˢ◌ set_both' (element_at b a) x y), tt)
row_determines GecodeArraySetElementUnion = ((λ a b x y d e. set_both x y (union_of (chosen (pos 1) b a)) (and_second (sets.is_subset a (indices_from (pos 1) (length b))) _ d) (and_second (sets.is_subset a (indices_from (pos 1) (length b))) _ e)), tt)
row_determines FznCountEq = ((λ a b x y. int_both x y (count_of a b)), tt)
row_determines FznAmong = ((λ x y b c. int_both x y (count_in b c)), tt)
row_determines FznNvalue = ((λ x y b. int_both x y (pos (length (values_of b)))), tt)
row_determines GecodeMaximumArgIntOffset = ((λ a b x y. index_both int_le int_le_antisymmetric a b x y), tt)
row_determines GecodeMinimumArgIntOffset = ((λ a b x y. index_both (λ z w. int_le w z) (λ z w d e. int_le_antisymmetric z w e d) a b x y), tt)
row_determines GecodeMaximumArgBoolOffset = ((λ a b x y. index_both int_le int_le_antisymmetric (map as_number a) b x y), tt)
row_determines GecodeSetWeights = ((λ a b c x y d e. int_both x y (weight a b c) (weighs a b c x d) (weighs a b c y e)), tt)
row_determines GecodeRange = ((λ a b c x y d e. set_both x y (sets.from_list (chosen b a c)) (and_second (sets.is_subset c (indices_from b (length a))) _ d) (and_second (sets.is_subset c (indices_from b (length a))) _ e)), tt)
row_determines _ = tt

base_rows_determine : (bs : List Builtin) → AllByRecursion RowDetermines (map row_at bs)
base_rows_determine [] = tt
base_rows_determine (b ∷ bs) = (row_determines b, base_rows_determine bs)

-- the Boolean of a reified row is determined, whatever the row
reified_determines : (ss : List Shape) (t : Test ss)
    → Determines (with_bool ss) (with_truth ◌=ᴮ◌ ss t) (length ss)
reified_determines [] t = λ x y. bool_both x y t
reified_determines (s ∷ ss) t = λ x. reified_determines ss (t x)

reified_rows_determine : (rs : List Row) → AllByRecursion RowDetermines (map reified rs)
reified_rows_determine [] = tt
reified_rows_determine (r ∷ rs) = (subst (DeterminesResult (with_bool r.shapes) (reified r).holds) (sym (reified_result r)) (reified_determines r.shapes r.holds, tt), reified_rows_determine rs)

implied_rows_determine : (rs : List Row) → AllByRecursion RowDetermines (map implied rs)
unfolding result_of
implied_rows_determine [] = tt
implied_rows_determine (r ∷ rs) = (tt, implied_rows_determine rs)

pub rows_determine : AllByRecursion RowDetermines rows
unfolding rows
rows_determine =
    all_append RowDetermines base_rows (map reified rows_with_forms ++ map implied rows_with_forms) (base_rows_determine builtins)
    (all_append RowDetermines (map reified rows_with_forms) (map implied rows_with_forms) (reified_rows_determine rows_with_forms) (implied_rows_determine rows_with_forms))

pub at_found : {A : Type 0} (P : A → Type 0) (t : A → Bool) (xs : List A) (x : A)
    → AllByRecursion P xs → find t xs ≡ Some x → P x
at_found P t [] x h e = cc
at_found P t (y ∷ ys) x h e =
    elim (t y) as (λ b. cond b (Some y) (find t ys) ≡ Some x → P x) [
      | true ↦ λ e. let same : y ≡ x = cc in subst P same h.0
      | false ↦ λ e. at_found P t ys x h.1 e
    ] e
