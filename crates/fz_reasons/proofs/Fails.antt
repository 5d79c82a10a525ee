-- A row fails by each of its reasons, and so does a form of it where it is so why.
use Rattle.std.proofs.Common.{◌≡◌, ℤ, Bool, not, ◌&&◌, ◌||◌, List, [], ◌∷◌, map, int_le, int_lt, refl, arith, ◌⊎◌, inl, inr, pos, ◌+ℤ◌, ◌-ℤ◌, cond, true, false, Option, None, Some, length, nat_eq, option_and_then, sym, ap, ◌∙◌}
use Rattle.std.proofs.lemmas.Int.{ints}
use Rattle.fz_builtins.specs.of_meaning.Relations.{◌=ℤ◌, ◌=ᴮ◌, all_neighbours, as_number, is_before, ◌=ˢ◌, all_both, are_apart, as_places, count_of, counts_are, counts_lie, has_no_area, is_among, is_closed, is_empty_span, is_natural, is_nonzero, is_word, last_naturally, leads_back, lie_apart, lies_between, load_of, loads_are, marks, precedes, precedes_in_sets, products, refer_back, total, union_of}
use Rattle.std.specs.List.{list_all, list_any, zip}
use Rattle.std.specs.Option.{option_map_or}
use Rattle.std.proofs.lemmas.Bool.{and_left, and_right}
use Rattle.std.proofs.lemmas.Option.{none-some, same_Some}
use Rattle.fz_reasons.specs.Rows.{Argument, Builtin, Partial, bool_at, bools_at, int_at, ints_at, row_at, row_outcome, set_at, sets_at, sum_outcome}
use Rattle.fz_builtins.specs.of_meaning.declared.kind.Kind.TheVariants.{Int as IntKind, Bool as BoolKind}
use Rattle.fz_builtins.specs.Outcomes.{compared, implied_by}
use Rattle.fz_builtins.specs.declared.outcome.Outcome.{Outcome, TheVariants.Truth}
use Rattle.fz_builtins.specs.Said.{is_result}
use Rattle.fz_builtins.proofs.RowTests.{holds_at, same_int_either_way}
use Rattle.fz_builtins.proofs.of_globals.Ascending.{form_is}
use Rattle.fz_reasons.specs.Elements.{comparison, leave, operands, sides_of, AreUnlike, IsCount, IsOutside, relates, Relation, Equal, AtMost, Below, AtLeast, Neighbours, Count, Element, Sides}
use Rattle.fz_reasons.specs.Reasons.{FormsFail, IsAsked, IsForbidden, control, HasOtherNumber, HasOtherTruth, RowsFail, Says, Unlike, element_kind, neighbours_of, numbers_at, OtherNumber, OtherTruth}
use Rattle.fz_reasons.proofs.Arranging.{entered_twice, left_out, lies_outside, no_circuit, no_places, no_subcircuit, none_outside, other_load, other_run, other_total, overlap, overlapping, overloaded, short, too_much, negative_fails, early, first_before, from_no_state, no_word, one_way, other_lists, rises_too_fast, second_before}
use Rattle.fz_builtins.proofs.Failing.{both_fail, clash, clash_of_kept, neighbours_fail, one_fails}
use Rattle.fz_reasons.proofs.SetRows.{in_no_set, member_fails, no_index_of, not_back, set_too_early, shared_fails}
use Rattle.fz_reasons.specs.declared.reason.Operands.{Operands}
use Rattle.fz_builtins.specs.of_meaning.declared.known.Form.{Form, TheVariants.Base, TheVariants.Reified, TheVariants.Implied}
use Rattle.fz_builtins.specs.of_meaning.Known.{form_at}
use Rattle.fz_builtins.proofs.FormOutcomes.{implied_outcome, reified_outcome}
use Rattle.std.specs.FinSet as sets
use Rattle.fz_builtins.specs.of_meaning.declared.builtin.Builtin.TheVariants as builtin
use Rattle.fz_reasons.specs.declared.reason.Reason.TheVariants as reasons
use Rattle.fz_reasons.specs.declared.reason.Why.TheVariants as whys

at_most : (a b : Bool) → (not a || b) ≡ int_le (as_number a) (as_number b)
at_most a b = grind (arith, ints)

below : (a b : Bool) → (not a && b) ≡ int_lt (as_number a) (as_number b)
below a b = grind (arith, ints)

same : (a b : Bool) → (a =ᴮ b) ≡ (as_number a =ℤ as_number b)
same a b = grind (arith, ints)

-- neighbours of Booleans pass just where the numbers do
truth_neighbours : (p : Bool → Bool → Bool) (q : ℤ → ℤ → Bool)
    → ((a b : Bool) → p a b ≡ q (as_number a) (as_number b)) → (xs : List Bool)
    → all_neighbours p xs ≡ all_neighbours q (map as_number xs)
truth_neighbours p q is [] = refl
truth_neighbours p q is (x ∷ []) = refl
truth_neighbours p q is (x ∷ y ∷ xs) = λ i. is x y i && truth_neighbours p q is (y ∷ xs) i

-- lists of Booleans come before one another just where the numbers do
truths_before : (xs ys : List Bool)
    → is_before (λ x y. not x && y) ◌=ᴮ◌ xs ys ≡ is_before int_lt ◌=ℤ◌ (map as_number xs) (map as_number ys)
truths_before [] [] = refl
truths_before [] (y ∷ ys) = refl
truths_before (x ∷ xs) [] = refl
truths_before (x ∷ xs) (y ∷ ys) = λ i. below x y i || (same x y i && truths_before xs ys i)

-- ---- two sides

module _ (K : Partial) (xs : List Argument) where
  abbrev outcome_of : Operands × Relation → Outcome
  outcome_of c = sum_outcome (leave c.0 K xs || false) (relates c.1 (operands c.0 K xs).0 (operands c.0 K xs).1)

  abbrev Tests : Outcome → Option (Operands × Relation) → Type 0
  Tests o None = o ≡ o
  Tests o (Some c) = o ≡ outcome_of c

  -- a row that compares two numbers tests just that
  compares : (b : Builtin) → Tests (row_outcome (row_at b) K xs) (comparison b)
  unfolding comparison row_at row_outcome
  compares builtin.BoolLe = ap Truth (at_most (bool_at K xs 0) (bool_at K xs 1))
  compares builtin.BoolLt = ap Truth (below (bool_at K xs 0) (bool_at K xs 1))
  compares builtin.BoolGe = ap Truth (at_most (bool_at K xs 1) (bool_at K xs 0))
  compares builtin.BoolGt = ap Truth (below (bool_at K xs 1) (bool_at K xs 0))
  compares builtin.BoolAndImp = ap Truth (at_most (bool_at K xs 2) (bool_at K xs 0 && bool_at K xs 1))
  compares builtin.BoolOrImp = ap Truth (at_most (bool_at K xs 2) (bool_at K xs 0 || bool_at K xs 1))
  compares builtin.BoolXorImp = ap Truth (at_most (bool_at K xs 2) (not (bool_at K xs 0 =ᴮ bool_at K xs 1)))
  compares builtin.ArrayBoolAndImp = ap Truth (at_most (bool_at K xs 1) (list_all (λ x. x) (bools_at K xs 0)))
  compares builtin.ArrayBoolOrImp = ap Truth (at_most (bool_at K xs 1) (list_any (λ x. x) (bools_at K xs 0)))
  compares builtin.FznCountNeq = ap (λ t. Truth (not t)) (same_int_either_way (int_at K xs 2) (count_of (ints_at K xs 0) (int_at K xs 1)))
  compares builtin.FznExactlyInt = ap Truth (same_int_either_way (int_at K xs 0) (count_of (ints_at K xs 1) (int_at K xs 2)))
  compares b = refl

-- what is compared adds no sum up that leaves 128 bits, and doesn't compare so
unlike_outcome : (c : Operands × Relation) (beyond : Bool) (left right : ℤ) (s : Sides)
    → cond beyond None (Some (record { left = left; relation = c.1; right = right })) ≡ Some s
    → relates s.relation s.left s.right ≡ false
    → sum_outcome (beyond || false) (relates c.1 left right) ≡ Truth false
unlike_outcome c true left right s is unlike = absurd (none-some s is)
unlike_outcome c false left right s is unlike =
    let same : ◌≡◌ {A = Sides} (record { left = left; relation = c.1; right = right }) s = same_Some _ s is in
    ap (λ t. Truth (relates t.relation t.left t.right)) same ∙ ap Truth unlike

unlike_fails : (b : Builtin) (K : Partial) (xs : List Argument) (s : Sides) → Unlike b K xs s
    → row_outcome (row_at b) K xs ≡ Truth false
unlike_fails b K xs s h =
    elim (comparison b) as (λ o. Tests K xs (row_outcome (row_at b) K xs) o → option_and_then (λ c. sides_of c K xs) o ≡ Some s → row_outcome (row_at b) K xs ≡ Truth false) [
      | None ↦ λ _ is. absurd (none-some s is)
      | Some c ↦ λ tests is. tests ∙ unlike_outcome c (leave c.0 K xs) (operands c.0 K xs).0 (operands c.0 K xs).1 s is h.unlike
    ] (compares K xs b) h.sides

-- ---- a result

number_fails : (b : Builtin) (K : Partial) (xs : List Argument) (o : OtherNumber)
    → HasOtherNumber b K xs o → row_outcome (row_at b) K xs ≡ Truth false
number_fails b K xs o h =
    sym (holds_at K xs (row_at b) o.argument IntKind h.result false
    (sym (h.holds_with (int_at K xs o.argument) ∙ ap (is_result ◌=ℤ◌ o.wanted) h.value ∙ h.other)))

truth_fails : (b : Builtin) (K : Partial) (xs : List Argument) (o : OtherTruth)
    → HasOtherTruth b K xs o → row_outcome (row_at b) K xs ≡ Truth false
truth_fails b K xs o h =
    sym (holds_at K xs (row_at b) o.argument BoolKind h.result false
    (sym (h.holds_with (bool_at K xs o.argument) ∙ ap (is_result ◌=ᴮ◌ o.wanted) h.value ∙ h.other)))

-- ---- elements of arrays

neighbours_unlike : (xs : List ℤ) (n : Neighbours) (relation : Relation) → relation ≡ n.sides.relation
    → AreUnlike n.sides.relation xs n → all_neighbours (relates relation) xs ≡ false
neighbours_unlike xs n relation e h =
    neighbours_fail (relates relation) xs n.place n.sides.left n.sides.right h.here h.next
    (ap (λ r. relates r n.sides.left n.sides.right) e ∙ h.unlike)

neighbours_fail_row : (b : Builtin) (K : Partial) (xs : List Argument) (n : Neighbours)
    → neighbours_of b ≡ Some n.sides.relation
    → AreUnlike n.sides.relation (numbers_at (element_kind b) K xs 0) n
    → row_outcome (row_at b) K xs ≡ Truth false
unfolding row_outcome row_at
neighbours_fail_row builtin.FznAllEqualInt K xs n e h = ap Truth (neighbours_unlike (ints_at K xs 0) n Equal (same_Some _ _ e) h)
neighbours_fail_row builtin.FznIncreasingInt K xs n e h = ap Truth (neighbours_unlike (ints_at K xs 0) n AtMost (same_Some _ _ e) h)
neighbours_fail_row builtin.FznDecreasingInt K xs n e h = ap Truth (neighbours_unlike (ints_at K xs 0) n AtLeast (same_Some _ _ e) h)
neighbours_fail_row builtin.FznStrictlyIncreasingInt K xs n e h = ap Truth (neighbours_unlike (ints_at K xs 0) n Below (same_Some _ _ e) h)
neighbours_fail_row builtin.FznIncreasingBool K xs n e h = ap Truth (truth_neighbours (λ x y. not x || y) int_le at_most (bools_at K xs 0) ∙ neighbours_unlike (map as_number (bools_at K xs 0)) n AtMost (same_Some _ _ e) h)
neighbours_fail_row builtin.FznDecreasingBool K xs n e h = ap Truth (truth_neighbours (λ x y. not y || x) (λ x y. int_le y x) (λ x y. at_most y x) (bools_at K xs 0) ∙ neighbours_unlike (map as_number (bools_at K xs 0)) n AtLeast (same_Some _ _ e) h)
neighbours_fail_row b K xs n e h = absurd (none-some n.sides.relation e)

miscounted : (relation : Relation) (xs cover ns : List ℤ) (c : Count) → IsCount relation xs cover ns c
    → all_both (λ v n. relates relation (count_of xs v) n) cover ns ≡ false
miscounted relation xs cover ns c h =
    both_fail (λ v n. relates relation (count_of xs v) n) cover ns c.place c.value c.sides.right h.value h.wanted
    (ap (λ k. relates relation k c.sides.right) h.counted ∙ ap (λ r. relates r c.sides.left c.sides.right) h.asked ∙ h.unlike)

not_between : (xs cover least most : List ℤ) (c : Count)
    → IsCount AtLeast xs cover least c ⊎ IsCount AtMost xs cover most c
    → counts_lie xs cover least most ≡ false
not_between xs cover least most c (inl h) = and_left _ _ (miscounted AtLeast xs cover least c h)
not_between xs cover least most c (inr h) = and_right (all_both (λ v n. int_le n (count_of xs v)) cover least) _ (miscounted AtMost xs cover most c h)

outside : (xs cover : List ℤ) (e : Element) → IsOutside xs cover e → is_closed xs cover ≡ false
outside xs cover e h = one_fails (λ x. is_among x cover) xs e.place e.value h.there h.none

-- ---- all kinds

pub fails : RowsFail
unfolding Says row_outcome row_at
fails b K xs (reasons.Sides s) h = unlike_fails b K xs s h
fails b K xs (reasons.Number o) h = number_fails b K xs o h
fails b K xs (reasons.Truth o) h = truth_fails b K xs o h
fails b K xs (reasons.Neighbours n) h = neighbours_fail_row b K xs n h.0 h.1
fails b K xs (reasons.Negative n) h = negative_fails b K xs n h
fails b K xs (reasons.Member m) h = member_fails b K xs m h
fails builtin.BoolClause K xs reasons.NoLiteral h = λ i. Truth (h.0 i || h.1 i)
fails builtin.ArrayBoolXor K xs reasons.Even h = ap Truth h
fails builtin.FznAllDifferentInt K xs (reasons.Clash c) h = ap Truth (clash (ints_at K xs 0) c.one c.other c.value h.order h.one h.other)
fails builtin.FznAlldifferentExcept0 K xs (reasons.Clash c) h =
    ap Truth (clash_of_kept is_nonzero c.value h.1 (ints_at K xs 0) c.one c.other h.0.order h.0.one h.0.other)
fails builtin.FzcheckSubcircuit K xs (reasons.Clash c) h =
    ap Truth (entered_twice (int_at K xs 0) (ints_at K xs 1) (clash (ints_at K xs 1) c.one c.other c.value h.order h.one h.other))
fails builtin.FznPartitionSet K xs (reasons.Clash c) h =
    ap Truth (and_left _ (union_of (sets_at K xs 0) =ˢ set_at K xs 1) (shared_fails (sets_at K xs 0) c h))
fails builtin.FznGlobalCardinality K xs (reasons.Count c) h = ap Truth (miscounted Equal (ints_at K xs 0) (ints_at K xs 1) (ints_at K xs 2) c h)
fails builtin.FznGlobalCardinalityClosed K xs (reasons.Count c) h =
    ap Truth (and_left _ (is_closed (ints_at K xs 0) (ints_at K xs 1)) (miscounted Equal (ints_at K xs 0) (ints_at K xs 1) (ints_at K xs 2) c h))
fails builtin.FznGlobalCardinalityLowUp K xs (reasons.Count c) h =
    ap Truth (not_between (ints_at K xs 0) (ints_at K xs 1) (ints_at K xs 2) (ints_at K xs 3) c h)
fails builtin.FznGlobalCardinalityLowUpClosed K xs (reasons.Count c) h =
    ap Truth (and_left _ (is_closed (ints_at K xs 0) (ints_at K xs 1)) (not_between (ints_at K xs 0) (ints_at K xs 1) (ints_at K xs 2) (ints_at K xs 3) c h))
fails builtin.FznDistribute K xs (reasons.Count c) h = ap Truth (miscounted Equal (ints_at K xs 2) (ints_at K xs 1) (ints_at K xs 0) c h)
fails builtin.FznGlobalCardinalityClosed K xs (reasons.Outside e) h =
    ap Truth (and_right (counts_are (ints_at K xs 0) (ints_at K xs 1) (ints_at K xs 2)) _ (outside (ints_at K xs 0) (ints_at K xs 1) e h))
fails builtin.FznGlobalCardinalityLowUpClosed K xs (reasons.Outside e) h =
    ap Truth (and_right (counts_lie (ints_at K xs 0) (ints_at K xs 1) (ints_at K xs 2) (ints_at K xs 3)) _ (outside (ints_at K xs 0) (ints_at K xs 1) e h))
fails builtin.FznMemberInt K xs (reasons.NotListed v) h = ap Truth (ap (λ n. is_among n (ints_at K xs 0)) h.0 ∙ h.1)
fails builtin.FznMemberBool K xs (reasons.NotListed v) h = ap Truth h.1
fails builtin.SetIn K xs (reasons.NotListed v) h = ap Truth (ap (sets.contains (set_at K xs 1)) h.0 ∙ h.1)
fails builtin.SetNe K xs reasons.Same h = ap (λ s. Truth (not s)) h
fails builtin.FznDisjunctive K xs (reasons.Overlap o) h =
    ap Truth (and_right (last_naturally (zip (ints_at K xs 0) (ints_at K xs 1))) _
    (overlap (ints_at K xs 0) (ints_at K xs 1) o h.0 (λ a b. is_empty_span a || is_empty_span b || are_apart a b) (λ i. h.1.first i || h.1.second i || h.0.unlike i)))
fails builtin.FznDisjunctiveStrict K xs (reasons.Overlap o) h =
    ap Truth (and_right (last_naturally (zip (ints_at K xs 0) (ints_at K xs 1))) _ (overlap (ints_at K xs 0) (ints_at K xs 1) o h are_apart h.unlike))
fails builtin.GecodeScheduleUnary K xs (reasons.Overlap o) h = ap Truth (overlap (ints_at K xs 0) (ints_at K xs 1) o h are_apart h.unlike)
fails builtin.FznDiffn K xs (reasons.Boxes t) h =
    ap Truth (overlapping (ints_at K xs 0) (ints_at K xs 1) (ints_at K xs 2) (ints_at K xs 3) t h lie_apart (λ i. h.across.unlike i || h.along.unlike i))
fails builtin.FznDiffnNonstrict K xs (reasons.Boxes t) h =
    ap Truth (overlapping (ints_at K xs 0) (ints_at K xs 1) (ints_at K xs 2) (ints_at K xs 3) t h.0 (λ a b. has_no_area a || has_no_area b || lie_apart a b)
    (λ i. (h.1.first i || h.2.first i) || (h.1.second i || h.2.second i) || (h.0.across.unlike i || h.0.along.unlike i)))
fails builtin.GecodeNooverlap K xs (reasons.Boxes t) h =
    ap Truth (overlapping (ints_at K xs 0) (ints_at K xs 2) (ints_at K xs 1) (ints_at K xs 3) t h lie_apart (λ i. h.across.unlike i || h.along.unlike i))
fails builtin.FznCumulative K xs (reasons.Load l) h =
    let tasks = zip (zip (ints_at K xs 0) (ints_at K xs 1)) (ints_at K xs 2) in
    ap Truth (and_right (list_all (λ k. is_natural k.0.1 && is_natural k.1) tasks && (nat_eq (length tasks) 0 || is_natural (int_at K xs 3))) _
    (overloaded (ints_at K xs 0) (ints_at K xs 1) (ints_at K xs 2) (int_at K xs 3) l h))
fails builtin.FznBinPacking K xs (reasons.Bin l) h =
    ap Truth (one_fails (λ v. int_le (load_of (ints_at K xs 1) (ints_at K xs 2) v) (int_at K xs 0)) (ints_at K xs 1) l.task l.time h.bin
    (too_much (load_of (ints_at K xs 1) (ints_at K xs 2) l.time) (int_at K xs 0) l.sides h.together h.limit h.more))
fails builtin.GecodeBinPackingLoad K xs (reasons.BinLoad l) h =
    ap Truth (and_right (list_all (lies_between (int_at K xs 3) ((int_at K xs 3 +ℤ pos (length (ints_at K xs 0))) -ℤ pos 1)) (ints_at K xs 1)) _
    (other_load (ints_at K xs 1) (ints_at K xs 2) (ints_at K xs 0) (int_at K xs 3) l h))
fails builtin.FznKnapsack K xs (reasons.Weight t) h =
    let natural = (list_all is_natural (ints_at K xs 2) && is_natural (int_at K xs 3)) && is_natural (int_at K xs 4) in
    let profit = total (products (ints_at K xs 1) (ints_at K xs 2)) =ℤ int_at K xs 4 in
    λ i. sum_outcome (h.1 i) (and_left _ profit (and_right natural _ (other_total t _ _ h.0.is h.0.wanted h.0.other)) i)
fails builtin.FznKnapsack K xs (reasons.Profit t) h =
    let natural = (list_all is_natural (ints_at K xs 2) && is_natural (int_at K xs 3)) && is_natural (int_at K xs 4) in
    let weight = total (products (ints_at K xs 0) (ints_at K xs 2)) =ℤ int_at K xs 3 in
    λ i. sum_outcome (h.1 i) (and_right (natural && weight) _ (other_total t _ _ h.0.is h.0.wanted h.0.other) i)
fails builtin.FznSlidingSum K xs (reasons.Run r) h =
    ap Truth (other_run (int_at K xs 0) (int_at K xs 1) (int_at K xs 2) (ints_at K xs 3) r h)
fails builtin.GecodeAmongSeqInt K xs (reasons.Run r) h =
    ap Truth (other_run (int_at K xs 3) (int_at K xs 4) (int_at K xs 2) (marks (set_at K xs 1) (ints_at K xs 0)) r h)
fails builtin.FznLexLessInt K xs (reasons.Difference d) h = ap Truth (first_before (ints_at K xs 0) (ints_at K xs 1) d h.0 h.2 ∙ h.1)
fails builtin.FznLexLesseqInt K xs (reasons.Difference d) h =
    ap (λ s. Truth (not s)) (second_before (ints_at K xs 0) (ints_at K xs 1) d h.0 h.1)
fails builtin.FznLexLessBool K xs (reasons.Difference d) h =
    ap Truth (truths_before (bools_at K xs 0) (bools_at K xs 1) ∙ first_before (map as_number (bools_at K xs 0)) (map as_number (bools_at K xs 1)) d h.0 h.2 ∙ h.1)
fails builtin.FznLexLesseqBool K xs (reasons.Difference d) h =
    ap (λ s. Truth (not s)) (truths_before (bools_at K xs 1) (bools_at K xs 0) ∙ second_before (map as_number (bools_at K xs 0)) (map as_number (bools_at K xs 1)) d h.0 h.1)
fails builtin.FznSort K xs (reasons.Difference d) h =
    ap Truth (sym (form_is (ints_at K xs 0) h.ascending (ints_at K xs 1) h.same h.sorted)
    ∙ other_lists h.ascending (ints_at K xs 1) d.place d.left d.right h.difference.left h.difference.right h.unlike)
fails builtin.FznValuePrecedeInt K xs (reasons.Early e) h =
    ap Truth ((λ i. precedes (sym h.1 i) (sym h.2 i) (ints_at K xs 2)) ∙ early (ints_at K xs 2) e h.0)
fails builtin.GecodePrecede K xs (reasons.Early e) h =
    ap Truth ((λ i. precedes (sym h.1 i) (sym h.2 i) (ints_at K xs 0)) ∙ early (ints_at K xs 0) e h.0)
fails builtin.GecodePrecedeSet K xs (reasons.Early e) h =
    ap Truth ((λ i. precedes_in_sets (sym h.1 i) (sym h.2 i) (sets_at K xs 0)) ∙ set_too_early (sets_at K xs 0) e h.0)
fails builtin.FznValuePrecedeChainInt K xs (reasons.Early e) h =
    ap Truth (neighbours_fail (λ s t. precedes s t (ints_at K xs 1)) (ints_at K xs 0) h.link e.before e.value h.before h.value (early (ints_at K xs 1) e h.early))
fails builtin.FznSeqPrecedeChainInt K xs (reasons.Early e) h =
    ap Truth (rises_too_fast e.value (ints_at K xs 0) e.place (pos 0) h.2 h.0.there (λ k l at. h.0.none k l (at ∙ ap Some (sym h.1))))
fails builtin.InverseOffsets K xs (reasons.OneWay w) h =
    ap Truth (and_left _ (leads_back (pos 1) (as_places (int_at K xs 3) (ints_at K xs 2)) (as_places (int_at K xs 1) (ints_at K xs 0)))
    (one_way (ints_at K xs 0) (int_at K xs 1) (ints_at K xs 2) (int_at K xs 3) w h))
fails builtin.InverseOffsets K xs (reasons.OtherWay w) h =
    ap Truth (and_right (leads_back (pos 1) (as_places (int_at K xs 1) (ints_at K xs 0)) (as_places (int_at K xs 3) (ints_at K xs 2))) _
    (one_way (ints_at K xs 2) (int_at K xs 3) (ints_at K xs 0) (int_at K xs 1) w h))
fails builtin.GecodeIntSetChannel K xs (reasons.OneWay w) h =
    ap Truth (in_no_set (ints_at K xs 0) (int_at K xs 1) (sets_at K xs 2) (int_at K xs 3) w h)
fails builtin.GecodeIntSetChannel K xs (reasons.OtherWay w) h =
    ap Truth (no_index_of (ints_at K xs 0) (int_at K xs 1) (sets_at K xs 2) (int_at K xs 3) w h)
fails builtin.GecodeInverseSet K xs (reasons.OneWay w) h =
    ap Truth (and_left _ (refer_back (int_at K xs 3) (sets_at K xs 1) (int_at K xs 2) (sets_at K xs 0))
    (not_back (sets_at K xs 0) (int_at K xs 2) (sets_at K xs 1) (int_at K xs 3) w h))
fails builtin.GecodeInverseSet K xs (reasons.OtherWay w) h =
    ap Truth (and_right (refer_back (int_at K xs 2) (sets_at K xs 0) (int_at K xs 3) (sets_at K xs 1)) _
    (not_back (sets_at K xs 1) (int_at K xs 3) (sets_at K xs 0) (int_at K xs 2) w h))
fails builtin.GecodeCircuit K xs (reasons.NoIndex o) h =
    ap Truth (no_circuit (as_places (int_at K xs 0) (ints_at K xs 1)) (no_places (int_at K xs 0) (ints_at K xs 1) o h))
fails builtin.FzcheckSubcircuit K xs (reasons.NoIndex o) h =
    ap Truth (no_subcircuit (as_places (int_at K xs 0) (ints_at K xs 1)) (no_places (int_at K xs 0) (ints_at K xs 1) o h))
fails builtin.GecodeBinPackingLoad K xs (reasons.NoIndex o) h =
    let first = int_at K xs 3 in
    ap Truth (and_left _ (loads_are first (ints_at K xs 1) (ints_at K xs 2) (ints_at K xs 0))
    (one_fails (lies_between first ((first +ℤ pos (length (ints_at K xs 0))) -ℤ pos 1)) (ints_at K xs 1) o.place o.value h.value (lies_outside _ _ _ o h)))
fails builtin.ArraySetElement K xs (reasons.NoIndex o) h =
    ap (λ p. Truth (option_map_or (λ s. s =ˢ set_at K xs 2) p false)) (none_outside (sets_at K xs 1) (int_at K xs 0) o h)
fails builtin.GecodeCircuit K xs (reasons.Ring c) h = ap Truth (short (as_places (int_at K xs 0) (ints_at K xs 1)) c h)
fails builtin.FzcheckSubcircuit K xs (reasons.Ring c) h = ap Truth (left_out (as_places (int_at K xs 0) (ints_at K xs 1)) c h)
fails builtin.FznRegular K xs (reasons.BeginsIn q) h =
    ap Truth (ap (λ p. is_word (ints_at K xs 0) (int_at K xs 1) (int_at K xs 2) (ints_at K xs 3) p (set_at K xs 5)) h.0
    ∙ from_no_state (int_at K xs 1) (int_at K xs 2) (ints_at K xs 3) (set_at K xs 5) (ints_at K xs 0) q h.1)
fails builtin.FznRegular K xs (reasons.NoStep n) h =
    ap Truth (no_word (int_at K xs 1) (int_at K xs 2) (ints_at K xs 3) (set_at K xs 5) (ints_at K xs 0) n.place (int_at K xs 4) n.state n.symbol h.reached h.symbol h.none)
fails builtin.FznRegular K xs (reasons.EndsIn q) h =
    ap (λ o. Truth (option_map_or (λ q. lies_between (pos 1) (int_at K xs 1) q && sets.contains (set_at K xs 5) q) o false)) h.0
    ∙ (λ i. Truth (h.1 i && h.2 i))
fails builtin.FznTableInt K xs (reasons.NearRow n) h = ap Truth h.0
fails builtin.FznTableBool K xs (reasons.NearRow n) h = ap Truth h.0
fails b K xs r h = absurd h

asked_fails : (f : Form) (b : Builtin) (K : Partial) (xs : List Argument) → IsAsked f (control b K xs)
    → row_outcome (row_at b) K xs ≡ Truth false → row_outcome (form_at f (row_at b)) K xs ≡ Truth false
asked_fails Base b K xs h e = e
asked_fails Reified b K xs h e = reified_outcome (row_at b) K xs ∙ (λ i. compared (h i) (e i))
asked_fails Implied b K xs h e = implied_outcome (row_at b) K xs ∙ (λ i. implied_by (h i) (e i))

forbidden_fails : (f : Form) (b : Builtin) (K : Partial) (xs : List Argument) → IsForbidden f (control b K xs)
    → row_outcome (row_at b) K xs ≡ Truth true → row_outcome (form_at f (row_at b)) K xs ≡ Truth false
forbidden_fails Base b K xs h e = absurd h
forbidden_fails Reified b K xs h e = reified_outcome (row_at b) K xs ∙ (λ i. compared (h i) (e i))
forbidden_fails Implied b K xs h e = absurd h

pub forms_fail : FormsFail
forms_fail k K xs (whys.Fails r) h = asked_fails k.form k.builtin K xs h.0 (fails k.builtin K xs r h.1)
forms_fail k K xs whys.Holds h = forbidden_fails k.form k.builtin K xs h.0 h.1
