-- The table of builtins (MiniZinc Handbook, "FlatZinc builtins": int, bool, set and array; which of
-- them are known, and what a zero divisor, an index out of range and an empty maximum mean, is this
-- project's profile). A row has the names that it goes by, the kinds of the arguments, and when it
-- holds. Which arguments `defines_var` may fill is in `Results.antt`.
use Prim.Native.String.{String}
use Rattle.std.specs.Prelude.{ℕ, ℤ, pos, ◌+ℤ◌, ◌*ℤ◌, Bool, true, false, not, ◌&&◌, ◌||◌, List, [], ◌∷◌, ◌++◌, length, map, codes, int_le, int_lt, int_div, int_rem, unsigned_abs, Option, Some, None, ◌-ℤ◌, bytes_eq}
use Rattle.std.specs.Int.{int_min, int_max, int_pow}
use Rattle.std.specs.List.{list_all, list_any, filter, zip}
use Rattle.std.specs.Option.{option_map_or}
use Rattle.std.specs.FinSet as sets
use Rattle.fz_base.specs.Sets.{NumberSet, symmetric_difference}
use Rattle.fz_base.specs.declared.value.Value.{Value}
use Rattle.fz_base.specs.declared.value.Value.TheVariants.{Int, Bool as Truth, Set}
use Rattle.fz_meaning.specs.Relations.{◌=ℤ◌, ◌=ᴮ◌, ◌=ˢ◌, all_neighbours, all_pairs, all_some, are_apart, are_channelled, are_disjoint, are_inverse, as_places, boxes, count_in, count_of, counts_are, counts_lie, is_before, is_circuit, is_closed, is_convex, is_cumulative, is_disjunctive, is_flagged, is_index_of_best, is_knapsack, is_nonzero, is_partition, is_row_of, is_sorted_form, is_strictly_disjunctive, is_subcircuit, is_weight_of, is_word, lies_between, load_of, loads_are, marks, overlap_in_no_area, overlap_nowhere, precedes, rises_by_one, slides_between, values_of, total, products, where_true, is_element, is_among, is_odd, as_number, all_different, are_inverse_sets, chosen, indices_from, precedes_in_sets, union_of}
use Rattle.fz_meaning.specs.declared.builtin.Builtin.{Builtin}
use Rattle.fz_meaning.specs.declared.builtin.Builtin.TheVariants.{IntEq, IntNe, IntLe, IntLt, IntGe, IntGt, IntLinEq, IntLinNe, IntLinLe, IntPlus, IntMinus, IntTimes, IntMin, IntMax, IntAbs, IntNegate, IntDiv, IntMod, IntPow, ArrayIntElement, ArrayIntMaximum, ArrayIntMinimum, FznAllDifferentInt, BoolEq, BoolLe, BoolLt, BoolGe, BoolGt, BoolNot, BoolAnd, BoolOr, BoolXor, BoolAndImp, BoolOrImp, BoolXorImp, ArrayBoolAnd, ArrayBoolOr, ArrayBoolAndImp, ArrayBoolOrImp, ArrayBoolXor, ArrayBoolElement, BoolClause, Bool2Int, BoolLinEq, BoolLinLe, BoolLinNe, BoolLinLt, BoolLinGe, BoolLinGt, SetIn, SetEq, SetNe, SetSubset, SetSuperset, SetUnion, SetIntersect, SetDiff, SetSymdiff, SetCard, SetConvex, ArraySetElement, GecodeArraySetElementUnion, FznAlldifferentExcept0, FznAllEqualInt, FznCountEq, FznCountNeq, FznCountGeq, FznCountGt, FznCountLeq, FznCountLt, FznAmong, FznNvalue, FznAtLeastInt, FznAtMostInt, FznExactlyInt, FznGlobalCardinality, FznGlobalCardinalityClosed, FznGlobalCardinalityLowUp, FznGlobalCardinalityLowUpClosed, FznDistribute, FznCumulative, FznDisjunctive, FznDisjunctiveStrict, GecodeScheduleUnary, FznDiffn, FznDiffnNonstrict, GecodeNooverlap, GecodeCircuit, FzcheckSubcircuit, InverseOffsets, FznTableInt, FznTableBool, FznRegular, FznBinPacking, GecodeBinPackingLoad, FznLexLessInt, FznLexLesseqInt, FznLexLessBool, FznLexLesseqBool, FznIncreasingInt, FznIncreasingBool, FznDecreasingInt, FznDecreasingBool, FznStrictlyIncreasingInt, FznValuePrecedeInt, GecodePrecede, GecodePrecedeSet, FznValuePrecedeChainInt, FznSeqPrecedeChainInt, FznSort, FznMemberInt, FznMemberBool, GecodeMaximumArgIntOffset, GecodeMinimumArgIntOffset, GecodeMaximumArgBoolOffset, FznKnapsack, FznSlidingSum, GecodeAmongSeqInt, GecodeSetWeights, GecodeLinkSetToBooleans, GecodeIntSetChannel, GecodeInverseSet, GecodeRange, FznDisjoint, FznPartitionSet}
use Rattle.fz_meaning.specs.declared.known.Form.{Form}
use Rattle.fz_meaning.specs.declared.known.Form.TheVariants.{Base, Reified, Implied}
use Rattle.fz_meaning.specs.declared.kind.Kind.{Kind}
use Rattle.fz_meaning.specs.declared.kind.Kind.TheVariants.{Int as IntKind, Bool as BoolKind, Set as SetKind}
use Rattle.fz_meaning.specs.declared.row.Matrix.{Matrix}
use Rattle.fz_meaning.specs.declared.row.Matrix.TheVariants.{Absent, RowsLike, RowsBy}
use Rattle.fz_meaning.specs.declared.row.Wide.{Wide}
use Rattle.fz_meaning.specs.declared.row.Wide.TheVariants.{Products, Power}

-- ---- the kinds of arguments

-- an argument is a scalar or an array of one kind
pub data Shape : Type 0 where
  ScalarOf : Kind → Shape
  ArrayOf : Kind → Shape

abbrev pub I : Shape
I = ScalarOf IntKind

abbrev pub B : Shape
B = ScalarOf BoolKind

abbrev pub S : Shape
S = ScalarOf SetKind

abbrev pub [I] : Shape
[I] = ArrayOf IntKind

abbrev pub [B] : Shape
[B] = ArrayOf BoolKind

abbrev pub [S] : Shape
[S] = ArrayOf SetKind

-- what a value of a kind is, and what the value of an argument is: of a scalar or of an array
abbrev pub Plain : Kind → Type 0
Plain IntKind = ℤ
Plain BoolKind = Bool
Plain SetKind = NumberSet

abbrev pub Of : Shape → Type 0
Of (ScalarOf k) = Plain k
Of (ArrayOf k) = List (Plain k)

-- a test of arguments of these kinds
abbrev pub Test : List Shape → Type 0
Test [] = Bool
Test (s ∷ ss) = Of s → Test ss

-- ---- the rows

pub record Row : Type 0 where
  pub names : List (List ℕ)
  pub shapes : List Shape
  -- the indices, counted from 0, of the arrays that have to be of equal lengths
  pub together : List ℕ
  -- the array that was a matrix, whose length has to be that of whole rows
  pub matrix : Matrix
  -- the numbers that are computed in signed 128 bits: sums of the products of two arrays, and
  -- powers, by the indices of the arguments
  pub wide : List Wide
  pub holds : Test shapes
  -- whether there are reified forms for it, and which of them it is
  pub has_forms : Bool
  pub form : Form

abbrev pub is_named : List ℕ → Row → Bool
is_named name r = list_any (λ n. bytes_eq n name) r.names

-- a row by its first name, the others, its kinds and when it holds
abbrev pub Written : Type 0
Written = String → List String → (shapes : List Shape) → Test shapes → Row

abbrev pub row_with : List ℕ → Matrix → List Wide → Bool → Written
row_with together matrix wide has_forms name others shapes holds = record {
  names = map codes (name ∷ others);
  shapes = shapes;
  together = together;
  matrix = matrix;
  wide = wide;
  holds = holds;
  has_forms = has_forms;
  form = Base;
}

-- a row that asks nothing more, and has reified forms
abbrev pub row : Written
row = row_with [] Absent [] true

-- one that has none: it computes a result, and its name with a suffix has other arguments by
-- custom, or it is such a name itself
abbrev pub alone : Written
alone = row_with [] Absent [] false

-- one whose arrays at these indices have equal lengths
abbrev pub equal : List ℕ → Written
equal places = row_with places Absent [] true

-- what is said of a sum, which is added in 128 bits, and of the last argument
abbrev pub int_lin : String → (ℤ → ℤ → Bool) → Row
int_lin name says = row_with (0 ∷ 1 ∷ []) Absent (Products 0 1 ∷ []) true name []
    ([I] ∷ [I] ∷ I ∷ []) λ a b c. says (total (products a b)) c

-- what is said of the sum of the numbers whose Booleans are true, and of the last argument
abbrev pub bool_lin : String → (ℤ → ℤ → Bool) → Row
bool_lin name says = equal (0 ∷ 1 ∷ []) name [] ([I] ∷ [B] ∷ I ∷ [])
    λ a b c. says (total (where_true a b)) c

-- Names, kinds, and when it holds of the arguments, in their order. The table is opaque, so that no
-- goal about code writes it out: a proof that reads it says `unfolding row_at`.
unfoldable pub row_at : Builtin → Row
row_at IntEq = row "int_eq" [] (I ∷ I ∷ []) ◌=ℤ◌
row_at IntNe = row "int_ne" [] (I ∷ I ∷ []) λ a b. not (a =ℤ b)
row_at IntLe = row "int_le" [] (I ∷ I ∷ []) int_le
row_at IntLt = row "int_lt" [] (I ∷ I ∷ []) int_lt
row_at IntGe = row "int_ge" [] (I ∷ I ∷ []) λ a b. int_le b a
row_at IntGt = row "int_gt" [] (I ∷ I ∷ []) λ a b. int_lt b a
row_at IntLinEq = int_lin "int_lin_eq" ◌=ℤ◌
row_at IntLinNe = int_lin "int_lin_ne" λ n m. not (n =ℤ m)
row_at IntLinLe = int_lin "int_lin_le" int_le
row_at IntPlus = alone "int_plus" [] (I ∷ I ∷ I ∷ []) λ a b c. c =ℤ (a +ℤ b)
row_at IntMinus = alone "int_minus" [] (I ∷ I ∷ I ∷ []) λ a b c. c =ℤ (a -ℤ b)
row_at IntTimes = alone "int_times" [] (I ∷ I ∷ I ∷ []) λ a b c. c =ℤ (a *ℤ b)
row_at IntMin = alone "int_min" [] (I ∷ I ∷ I ∷ []) λ a b c. c =ℤ int_min a b
row_at IntMax = alone "int_max" [] (I ∷ I ∷ I ∷ []) λ a b c. c =ℤ int_max a b
row_at IntAbs = alone "int_abs" [] (I ∷ I ∷ []) λ a b. b =ℤ pos (unsigned_abs a)
row_at IntNegate = alone "int_negate" [] (I ∷ I ∷ []) λ a b. b =ℤ (pos 0 -ℤ a)
row_at IntDiv = alone "int_div" [] (I ∷ I ∷ I ∷ []) λ a b c. not (b =ℤ pos 0) && (c =ℤ int_div a b)
row_at IntMod = alone "int_mod" [] (I ∷ I ∷ I ∷ []) λ a b c. not (b =ℤ pos 0) && (c =ℤ int_rem a b)
-- the power of the first argument by the second is computed in 128 bits
row_at IntPow = row_with [] Absent (Power 0 1 ∷ []) false "int_pow" ("gecode_int_pow" ∷ [])
    (I ∷ I ∷ I ∷ []) λ a b c. int_le (pos 0) b && (c =ℤ int_pow a (unsigned_abs b))
row_at ArrayIntElement =
    alone "array_int_element" ("array_var_int_element" ∷ []) (I ∷ [I] ∷ I ∷ []) (is_element ◌=ℤ◌)
row_at ArrayIntMaximum =
    alone "array_int_maximum" [] (I ∷ [I] ∷ []) λ a b. is_among a b && list_all (λ x. int_le x a) b
row_at ArrayIntMinimum =
    alone "array_int_minimum" [] (I ∷ [I] ∷ []) λ a b. is_among a b && list_all (λ x. int_le a x) b
row_at FznAllDifferentInt = row "fzn_all_different_int"
    ("gecode_all_different_int" ∷ "geas_all_different_int" ∷ "all_different_int" ∷ []) ([I] ∷ [])
    all_different
row_at BoolEq = row "bool_eq" [] (B ∷ B ∷ []) ◌=ᴮ◌
row_at BoolLe = row "bool_le" [] (B ∷ B ∷ []) λ a b. not a || b
row_at BoolLt = row "bool_lt" [] (B ∷ B ∷ []) λ a b. not a && b
row_at BoolGe = row "bool_ge" [] (B ∷ B ∷ []) λ a b. not b || a
row_at BoolGt = row "bool_gt" [] (B ∷ B ∷ []) λ a b. not b && a
row_at BoolNot = row "bool_not" ("bool_ne" ∷ []) (B ∷ B ∷ []) λ a b. not (a =ᴮ b)
row_at BoolAnd = alone "bool_and" [] (B ∷ B ∷ B ∷ []) λ a b c. c =ᴮ (a && b)
row_at BoolOr = alone "bool_or" [] (B ∷ B ∷ B ∷ []) λ a b c. c =ᴮ (a || b)
row_at BoolXor = alone "bool_xor" [] (B ∷ B ∷ B ∷ []) λ a b c. c =ᴮ not (a =ᴮ b)
row_at BoolAndImp = alone "bool_and_imp" [] (B ∷ B ∷ B ∷ []) λ a b c. not c || (a && b)
row_at BoolOrImp = alone "bool_or_imp" [] (B ∷ B ∷ B ∷ []) λ a b c. not c || (a || b)
row_at BoolXorImp = alone "bool_xor_imp" [] (B ∷ B ∷ B ∷ []) λ a b c. not c || not (a =ᴮ b)
row_at ArrayBoolAnd = alone "array_bool_and" [] ([B] ∷ B ∷ []) λ a b. b =ᴮ list_all (λ x. x) a
row_at ArrayBoolOr = alone "array_bool_or" [] ([B] ∷ B ∷ []) λ a b. b =ᴮ list_any (λ x. x) a
row_at ArrayBoolAndImp =
    alone "array_bool_and_imp" [] ([B] ∷ B ∷ []) λ a b. not b || list_all (λ x. x) a
row_at ArrayBoolOrImp =
    alone "array_bool_or_imp" [] ([B] ∷ B ∷ []) λ a b. not b || list_any (λ x. x) a
row_at ArrayBoolXor = row "array_bool_xor" [] ([B] ∷ []) λ a. is_odd (length (filter (λ x. x) a))
row_at ArrayBoolElement =
    alone "array_bool_element" ("array_var_bool_element" ∷ []) (I ∷ [B] ∷ B ∷ []) (is_element ◌=ᴮ◌)
row_at BoolClause =
    row "bool_clause" [] ([B] ∷ [B] ∷ []) λ a b. list_any (λ x. x) a || list_any (λ x. not x) b
row_at Bool2Int = alone "bool2int" [] (B ∷ I ∷ []) λ a b. b =ℤ as_number a
row_at BoolLinEq = bool_lin "bool_lin_eq" ◌=ℤ◌
row_at BoolLinLe = bool_lin "bool_lin_le" int_le
row_at BoolLinNe = bool_lin "bool_lin_ne" λ n m. not (n =ℤ m)
row_at BoolLinLt = bool_lin "bool_lin_lt" int_lt
row_at BoolLinGe = bool_lin "bool_lin_ge" λ n m. int_le m n
row_at BoolLinGt = bool_lin "bool_lin_gt" λ n m. int_lt m n
row_at SetIn = row "set_in" [] (I ∷ S ∷ []) λ a b. sets.contains b a
row_at SetEq = row "set_eq" [] (S ∷ S ∷ []) ◌=ˢ◌
row_at SetNe = row "set_ne" [] (S ∷ S ∷ []) λ a b. not (a =ˢ b)
row_at SetSubset = row "set_subset" [] (S ∷ S ∷ []) sets.is_subset
row_at SetSuperset = row "set_superset" [] (S ∷ S ∷ []) λ a b. sets.is_subset b a
row_at SetUnion = alone "set_union" [] (S ∷ S ∷ S ∷ []) λ a b c. c =ˢ sets.union a b
row_at SetIntersect = alone "set_intersect" [] (S ∷ S ∷ S ∷ []) λ a b c. c =ˢ sets.intersection a b
row_at SetDiff = alone "set_diff" [] (S ∷ S ∷ S ∷ []) λ a b c. c =ˢ sets.difference a b
row_at SetSymdiff = alone "set_symdiff" [] (S ∷ S ∷ S ∷ []) λ a b c. c =ˢ symmetric_difference a b
row_at SetCard = alone "set_card" [] (S ∷ I ∷ []) λ a b. b =ℤ pos (sets.len a)
row_at SetConvex = row "set_convex" [] (S ∷ []) is_convex
row_at ArraySetElement =
    alone "array_set_element" ("array_var_set_element" ∷ []) (I ∷ [S] ∷ S ∷ []) (is_element ◌=ˢ◌)
row_at GecodeArraySetElementUnion =
    alone "gecode_array_set_element_union" [] (S ∷ [S] ∷ S ∷ []) λ a b c.
    sets.is_subset a (indices_from (pos 1) (length b)) && (c =ˢ union_of (chosen (pos 1) b a))
row_at FznAlldifferentExcept0 = row "fzn_alldifferent_except_0" ("geas_all_different_except_0" ∷ [])
    ([I] ∷ []) λ a. all_different (filter is_nonzero a)
row_at FznAllEqualInt =
    row "fzn_all_equal_int" ("all_equal_int" ∷ []) ([I] ∷ []) (all_neighbours ◌=ℤ◌)
row_at FznCountEq =
    row "fzn_count_eq" ("gecode_count" ∷ "count" ∷ []) ([I] ∷ I ∷ I ∷ []) λ a b c. c =ℤ count_of a b
row_at FznCountNeq = row "fzn_count_neq" [] ([I] ∷ I ∷ I ∷ []) λ a b c. not (c =ℤ count_of a b)
row_at FznCountGeq = row "fzn_count_geq" [] ([I] ∷ I ∷ I ∷ []) λ a b c. int_le (count_of a b) c
row_at FznCountGt = row "fzn_count_gt" [] ([I] ∷ I ∷ I ∷ []) λ a b c. int_lt (count_of a b) c
row_at FznCountLeq = row "fzn_count_leq" [] ([I] ∷ I ∷ I ∷ []) λ a b c. int_le c (count_of a b)
row_at FznCountLt = row "fzn_count_lt" [] ([I] ∷ I ∷ I ∷ []) λ a b c. int_lt c (count_of a b)
row_at FznAmong = row "fzn_among" ("among" ∷ []) (I ∷ [I] ∷ S ∷ []) λ a b c. a =ℤ count_in b c
row_at FznNvalue =
    row "fzn_nvalue" ("nvalue" ∷ []) (I ∷ [I] ∷ []) λ a b. a =ℤ pos (length (values_of b))
row_at FznAtLeastInt =
    row "fzn_at_least_int" ("at_least_int" ∷ []) (I ∷ [I] ∷ I ∷ []) λ a b c. int_le a (count_of b c)
row_at FznAtMostInt =
    row "fzn_at_most_int" ("at_most_int" ∷ []) (I ∷ [I] ∷ I ∷ []) λ a b c. int_le (count_of b c) a
row_at FznExactlyInt = row "fzn_exactly_int" [] (I ∷ [I] ∷ I ∷ []) λ a b c. a =ℤ count_of b c
row_at FznGlobalCardinality = equal (1 ∷ 2 ∷ []) "fzn_global_cardinality"
    ("gecode_global_cardinality" ∷ "geas_global_cardinality" ∷ []) ([I] ∷ [I] ∷ [I] ∷ []) counts_are
row_at FznGlobalCardinalityClosed =
    equal (1 ∷ 2 ∷ []) "fzn_global_cardinality_closed" ("gecode_global_cardinality_closed" ∷ [])
    ([I] ∷ [I] ∷ [I] ∷ []) λ a b c. counts_are a b c && is_closed a b
row_at FznGlobalCardinalityLowUp = equal (1 ∷ 2 ∷ 3 ∷ []) "fzn_global_cardinality_low_up"
    ("global_cardinality_low_up" ∷ []) ([I] ∷ [I] ∷ [I] ∷ [I] ∷ []) counts_lie
row_at FznGlobalCardinalityLowUpClosed = equal (1 ∷ 2 ∷ 3 ∷ [])
    "fzn_global_cardinality_low_up_closed" ("global_cardinality_low_up_closed" ∷ [])
    ([I] ∷ [I] ∷ [I] ∷ [I] ∷ []) λ a b c d. counts_lie a b c d && is_closed a b
row_at FznDistribute =
    equal (0 ∷ 1 ∷ []) "fzn_distribute" [] ([I] ∷ [I] ∷ [I] ∷ []) λ a b c. counts_are c b a
row_at FznCumulative = equal (0 ∷ 1 ∷ 2 ∷ []) "fzn_cumulative"
    ("cumulatives" ∷ "geas_cumulative" ∷ "geas_cumulative_var" ∷ []) ([I] ∷ [I] ∷ [I] ∷ I ∷ [])
    λ a b c d. is_cumulative (zip (zip a b) c) d
row_at FznDisjunctive = equal (0 ∷ 1 ∷ []) "fzn_disjunctive" ("geas_disjunctive" ∷ [])
    ([I] ∷ [I] ∷ []) λ a b. is_disjunctive (zip a b)
row_at FznDisjunctiveStrict = equal (0 ∷ 1 ∷ []) "fzn_disjunctive_strict" [] ([I] ∷ [I] ∷ [])
    λ a b. is_strictly_disjunctive (zip a b)
row_at GecodeScheduleUnary = equal (0 ∷ 1 ∷ []) "gecode_schedule_unary" [] ([I] ∷ [I] ∷ [])
    λ a b. all_pairs are_apart (zip a b)
row_at FznDiffn = equal (0 ∷ 1 ∷ 2 ∷ 3 ∷ []) "fzn_diffn" [] ([I] ∷ [I] ∷ [I] ∷ [I] ∷ [])
    λ a b c d. overlap_nowhere (boxes a b c d)
row_at FznDiffnNonstrict = equal (0 ∷ 1 ∷ 2 ∷ 3 ∷ []) "fzn_diffn_nonstrict" []
    ([I] ∷ [I] ∷ [I] ∷ [I] ∷ []) λ a b c d. overlap_in_no_area (boxes a b c d)
row_at GecodeNooverlap = equal (0 ∷ 1 ∷ 2 ∷ 3 ∷ []) "gecode_nooverlap" []
    ([I] ∷ [I] ∷ [I] ∷ [I] ∷ []) λ a b c d. overlap_nowhere (boxes a c b d)
row_at GecodeCircuit =
    row "gecode_circuit" ("fzcheck_circuit" ∷ []) (I ∷ [I] ∷ []) λ a b. is_circuit (as_places a b)
row_at FzcheckSubcircuit =
    row "fzcheck_subcircuit" [] (I ∷ [I] ∷ []) λ a b. is_subcircuit (as_places a b)
row_at InverseOffsets = row "inverse_offsets" ("gecode_inverse_offsets" ∷ [])
    ([I] ∷ I ∷ [I] ∷ I ∷ []) λ a b c d. are_inverse (as_places b a) (as_places d c)
-- the second array is a table: its rows are as long as the first array, which isn't empty
row_at FznTableInt = row_with [] (RowsLike 0 1) [] true "fzn_table_int"
    ("gecode_table_int" ∷ "geas_table_int" ∷ []) ([I] ∷ [I] ∷ []) (is_row_of ◌=ℤ◌)
row_at FznTableBool = row_with [] (RowsLike 0 1) [] true "fzn_table_bool"
    ("gecode_table_bool" ∷ []) ([B] ∷ [B] ∷ []) (is_row_of ◌=ᴮ◌)
-- the fourth argument has the transitions of an automaton: as many rows as the second says, which
-- is one for each state, and each as long as the third says
row_at FznRegular = row_with [] (RowsBy 1 2 3) [] true "fzn_regular" ("gecode_regular" ∷ [])
    ([I] ∷ I ∷ I ∷ [I] ∷ I ∷ S ∷ []) is_word
row_at FznBinPacking = equal (1 ∷ 2 ∷ []) "fzn_bin_packing" [] (I ∷ [I] ∷ [I] ∷ [])
    λ a b c. list_all (λ v. int_le (load_of b c v) a) b
row_at GecodeBinPackingLoad = equal (1 ∷ 2 ∷ []) "gecode_bin_packing_load"
    ("fzcheck_bin_packing_load" ∷ []) ([I] ∷ [I] ∷ [I] ∷ I ∷ [])
    λ a b c d. list_all (lies_between d ((d +ℤ pos (length a)) -ℤ pos 1)) b && loads_are d b c a
row_at FznLexLessInt = row "fzn_lex_less_int" ("gecode_array_int_lt" ∷ "array_int_lt" ∷ [])
    ([I] ∷ [I] ∷ []) (is_before int_lt ◌=ℤ◌)
row_at FznLexLesseqInt = row "fzn_lex_lesseq_int" ("gecode_array_int_lq" ∷ "array_int_lq" ∷ [])
    ([I] ∷ [I] ∷ []) λ a b. not (is_before int_lt ◌=ℤ◌ b a)
row_at FznLexLessBool = row "fzn_lex_less_bool" ("gecode_array_bool_lt" ∷ "array_bool_lt" ∷ [])
    ([B] ∷ [B] ∷ []) λ a b. is_before (λ x y. not x && y) ◌=ᴮ◌ a b
row_at FznLexLesseqBool = row "fzn_lex_lesseq_bool" ("gecode_array_bool_lq" ∷ "array_bool_lq" ∷ [])
    ([B] ∷ [B] ∷ []) λ a b. not (is_before (λ x y. not x && y) ◌=ᴮ◌ b a)
row_at FznIncreasingInt =
    row "fzn_increasing_int" ("increasing_int" ∷ []) ([I] ∷ []) (all_neighbours int_le)
row_at FznIncreasingBool =
    row "fzn_increasing_bool" [] ([B] ∷ []) (all_neighbours (λ x y. not x || y))
row_at FznDecreasingInt =
    row "fzn_decreasing_int" ("decreasing_int" ∷ []) ([I] ∷ []) (all_neighbours (λ x y. int_le y x))
row_at FznDecreasingBool =
    row "fzn_decreasing_bool" [] ([B] ∷ []) (all_neighbours (λ x y. not y || x))
row_at FznStrictlyIncreasingInt =
    row "fzn_strictly_increasing_int" [] ([I] ∷ []) (all_neighbours int_lt)
row_at FznValuePrecedeInt = row "fzn_value_precede_int" [] (I ∷ I ∷ [I] ∷ []) precedes
row_at GecodePrecede = row "gecode_precede" [] ([I] ∷ I ∷ I ∷ []) λ a b c. precedes b c a
row_at GecodePrecedeSet =
    row "gecode_precede_set" [] ([S] ∷ I ∷ I ∷ []) λ a b c. precedes_in_sets b c a
row_at FznValuePrecedeChainInt = row "fzn_value_precede_chain_int" [] ([I] ∷ [I] ∷ [])
    λ a b. all_neighbours (λ s t. precedes s t b) a
row_at FznSeqPrecedeChainInt = row "fzn_seq_precede_chain_int" [] ([I] ∷ []) (rises_by_one (pos 0))
row_at FznSort = row "fzn_sort" ("sort" ∷ []) ([I] ∷ [I] ∷ []) is_sorted_form
row_at FznMemberInt = row "fzn_member_int" ("gecode_member_int" ∷ "member_int" ∷ []) ([I] ∷ I ∷ [])
    λ a b. is_among b a
row_at FznMemberBool =
    row "fzn_member_bool" ("gecode_member_bool" ∷ []) ([B] ∷ B ∷ []) λ a b. list_any (λ x. x =ᴮ b) a
row_at GecodeMaximumArgIntOffset =
    row "gecode_maximum_arg_int_offset" [] ([I] ∷ I ∷ I ∷ []) (is_index_of_best int_le)
row_at GecodeMinimumArgIntOffset =
    row "gecode_minimum_arg_int_offset" [] ([I] ∷ I ∷ I ∷ []) (is_index_of_best (λ x m. int_le m x))
row_at GecodeMaximumArgBoolOffset = row "gecode_maximum_arg_bool_offset" [] ([B] ∷ I ∷ I ∷ [])
    λ a b c. is_index_of_best int_le (map as_number a) b c
-- weights, profits and numbers of things, of which two sums are made
row_at FznKnapsack = row_with (0 ∷ 1 ∷ 2 ∷ []) Absent (Products 0 2 ∷ Products 1 2 ∷ []) true
    "fzn_knapsack" [] ([I] ∷ [I] ∷ [I] ∷ I ∷ I ∷ []) is_knapsack
row_at FznSlidingSum = row "fzn_sliding_sum" [] (I ∷ I ∷ I ∷ [I] ∷ []) slides_between
row_at GecodeAmongSeqInt = row "gecode_among_seq_int" [] ([I] ∷ S ∷ I ∷ I ∷ I ∷ [])
    λ a b c d e. slides_between d e c (marks b a)
row_at GecodeSetWeights =
    equal (0 ∷ 1 ∷ []) "gecode_set_weights" [] ([I] ∷ [I] ∷ S ∷ I ∷ []) is_weight_of
row_at GecodeLinkSetToBooleans = row "gecode_link_set_to_booleans" [] (S ∷ [B] ∷ I ∷ []) is_flagged
row_at GecodeIntSetChannel = row "gecode_int_set_channel" [] ([I] ∷ I ∷ [S] ∷ I ∷ []) are_channelled
row_at GecodeInverseSet =
    row "gecode_inverse_set" [] ([S] ∷ [S] ∷ I ∷ I ∷ []) λ a b c d. are_inverse_sets a c b d
row_at GecodeRange = row "gecode_range" [] ([I] ∷ I ∷ S ∷ S ∷ []) λ a b c d.
    sets.is_subset c (indices_from b (length a)) && (d =ˢ sets.from_list (chosen b a c))
row_at FznDisjoint = row "fzn_disjoint" ("disjoint" ∷ []) (S ∷ S ∷ []) are_disjoint
row_at FznPartitionSet = row "fzn_partition_set"
    ("gecode_array_set_partition" ∷ "array_set_partition" ∷ []) ([S] ∷ S ∷ []) is_partition

-- all of them, in the order of the table
unfoldable pub builtins : List Builtin
builtins =
    IntEq ∷ IntNe ∷ IntLe ∷ IntLt ∷ IntGe ∷ IntGt ∷ IntLinEq ∷ IntLinNe ∷ IntLinLe ∷ IntPlus ∷
    IntMinus ∷ IntTimes ∷ IntMin ∷ IntMax ∷ IntAbs ∷ IntNegate ∷ IntDiv ∷ IntMod ∷ IntPow ∷
    ArrayIntElement ∷ ArrayIntMaximum ∷ ArrayIntMinimum ∷ FznAllDifferentInt ∷ BoolEq ∷ BoolLe ∷
    BoolLt ∷ BoolGe ∷ BoolGt ∷ BoolNot ∷ BoolAnd ∷ BoolOr ∷ BoolXor ∷ BoolAndImp ∷ BoolOrImp ∷
    BoolXorImp ∷ ArrayBoolAnd ∷ ArrayBoolOr ∷ ArrayBoolAndImp ∷ ArrayBoolOrImp ∷ ArrayBoolXor ∷
    ArrayBoolElement ∷ BoolClause ∷ Bool2Int ∷ BoolLinEq ∷ BoolLinLe ∷ BoolLinNe ∷ BoolLinLt ∷
    BoolLinGe ∷ BoolLinGt ∷ SetIn ∷ SetEq ∷ SetNe ∷ SetSubset ∷ SetSuperset ∷ SetUnion ∷
    SetIntersect ∷ SetDiff ∷ SetSymdiff ∷ SetCard ∷ SetConvex ∷ ArraySetElement ∷
    GecodeArraySetElementUnion ∷ FznAlldifferentExcept0 ∷ FznAllEqualInt ∷ FznCountEq ∷
    FznCountNeq ∷ FznCountGeq ∷ FznCountGt ∷ FznCountLeq ∷ FznCountLt ∷ FznAmong ∷ FznNvalue ∷
    FznAtLeastInt ∷ FznAtMostInt ∷ FznExactlyInt ∷ FznGlobalCardinality ∷
    FznGlobalCardinalityClosed ∷ FznGlobalCardinalityLowUp ∷ FznGlobalCardinalityLowUpClosed ∷
    FznDistribute ∷ FznCumulative ∷ FznDisjunctive ∷ FznDisjunctiveStrict ∷ GecodeScheduleUnary ∷
    FznDiffn ∷ FznDiffnNonstrict ∷ GecodeNooverlap ∷ GecodeCircuit ∷ FzcheckSubcircuit ∷
    InverseOffsets ∷ FznTableInt ∷ FznTableBool ∷ FznRegular ∷ FznBinPacking ∷
    GecodeBinPackingLoad ∷ FznLexLessInt ∷ FznLexLesseqInt ∷ FznLexLessBool ∷ FznLexLesseqBool ∷
    FznIncreasingInt ∷ FznIncreasingBool ∷ FznDecreasingInt ∷ FznDecreasingBool ∷
    FznStrictlyIncreasingInt ∷ FznValuePrecedeInt ∷ GecodePrecede ∷ GecodePrecedeSet ∷
    FznValuePrecedeChainInt ∷ FznSeqPrecedeChainInt ∷ FznSort ∷ FznMemberInt ∷ FznMemberBool ∷
    GecodeMaximumArgIntOffset ∷ GecodeMinimumArgIntOffset ∷ GecodeMaximumArgBoolOffset ∷
    FznKnapsack ∷ FznSlidingSum ∷ GecodeAmongSeqInt ∷ GecodeSetWeights ∷ GecodeLinkSetToBooleans ∷
    GecodeIntSetChannel ∷ GecodeInverseSet ∷ GecodeRange ∷ FznDisjoint ∷ FznPartitionSet ∷ []

abbrev pub base_rows : List Row
base_rows = map row_at builtins

-- ---- the reified forms

abbrev pub with_bool : List Shape → List Shape
with_bool [] = B ∷ []
with_bool (s ∷ ss) = s ∷ with_bool ss

-- one more Boolean after the arguments, and what is said of it and of the test
abbrev pub with_truth : (Bool → Bool → Bool) → (ss : List Shape) → Test ss → Test (with_bool ss)
with_truth says [] t = λ r. says r t
with_truth says (s ∷ ss) t = λ x. with_truth says ss (t x)

abbrev pub form_of : Form → List ℕ → (Bool → Bool → Bool) → Row → Row
form_of form suffix says r = record r {
  names = map (λ n. n ++ suffix) r.names;
  shapes = with_bool r.shapes;
  holds = with_truth says r.shapes r.holds;
  has_forms = false;
  form = form;
}

-- reified: the Boolean is true exactly where the row holds
abbrev pub reified : Row → Row
reified r = form_of Reified (codes "_reif") ◌=ᴮ◌ r

-- half-reified: where the Boolean is true, the row holds
abbrev pub implied : Row → Row
implied r = form_of Implied (codes "_imp") (λ t holds. not t || holds) r

abbrev pub rows_with_forms : List Row
rows_with_forms = filter (λ r. r.has_forms) base_rows

-- The whole table. It is opaque, so that no goal about code writes it out: a proof that reads it
-- says `unfolding rows`.
unfoldable pub rows : List Row
rows = base_rows ++ (map reified rows_with_forms ++ map implied rows_with_forms)

-- ---- a test at argument values

-- the value of an argument: one value, or the list of an array's
pub data ArgValue : Type 0 where
  OneValue : Value → ArgValue
  ManyValues : List Value → ArgValue

-- the value as one of the kind
abbrev pub plain : (k : Kind) → Value → Option (Plain k)
plain IntKind (Int n) = Some n
plain BoolKind (Truth b) = Some b
plain SetKind (Set s) = Some s
plain _ _ = None

abbrev pub plain_list : (k : Kind) → List Value → Option (List (Plain k))
plain_list k vs = all_some (map (plain k) vs)

abbrev pub read : (s : Shape) → ArgValue → Option (Of s)
read (ScalarOf k) (OneValue v) = plain k v
read (ArrayOf k) (ManyValues vs) = plain_list k vs
read _ _ = None

-- the arguments are of the kinds that are asked for, and pass the test
abbrev pub passes : (ss : List Shape) → Test ss → List ArgValue → Bool
passes [] t [] = t
passes (s ∷ ss) t (v ∷ vs) = option_map_or (λ x. passes ss (t x) vs) (read s v) false
passes _ _ _ = false
