-- What a reason says of the values of a constraint's arguments, and that from it the row fails
-- (this project's profile). Each kind of reason belongs to the rows that are listed with it; of
-- another row it says nothing that can be so.
use Rattle.std.specs.Prelude.{◌≡◌, ◌⊎◌, ◌<◌, ⊤, ◌+ℤ◌, ◌-ℤ◌, ℕ, ℤ, pos, Bool, true, false, not, ◌&&◌, ◌||◌, List, [], ◌∷◌, Option, None, Some, int_lt, length, map, slice_get}
use Rattle.std.specs.List.{filter, list_any}
use Rattle.std.specs.Option.{option_map_or}
use Rattle.std.specs.FinSet as sets
use Rattle.fz_builtins.specs.of_meaning.of_base.declared.value.Value.TheVariants.{Int, Bool as Truth}
use Rattle.fz_builtins.specs.of_meaning.of_base.Sets.{NumberSet}
use Rattle.fz_reasons.specs.Rows.{Argument, Builtin, Partial, bool_at, bools_at, bools_of, int_at, ints_at, ints_of, reads_beyond, row_at, row_outcome, set_at, sets_at, slots_at}
use Rattle.fz_builtins.specs.of_meaning.declared.builtin.Builtin.TheVariants as builtin
use Rattle.fz_builtins.specs.of_meaning.declared.kind.Kind.TheVariants.{Int as IntKind, Bool as BoolKind}
use Rattle.fz_builtins.specs.of_meaning.declared.term.Term.{Term}
use Rattle.fz_builtins.specs.of_meaning.Relations.{◌=ℤ◌, ◌=ᴮ◌, ◌=ˢ◌, as_number, as_places, chosen, element_at, is_among, is_natural, is_nonzero, is_odd, is_row_of, lies_between, marks, run}
use Rattle.fz_builtins.specs.declared.outcome.Outcome.TheVariants as outcomes
use Rattle.fz_builtins.specs.of_meaning.declared.known.{Form.Form, Form.TheVariants.Base, Form.TheVariants.Reified, Form.TheVariants.Implied, Known.Known}
use Rattle.fz_builtins.specs.of_meaning.Known.{known_row}
use Rattle.fz_builtins.specs.Said.{HasResult, is_result, row_with}
use Rattle.fz_reasons.specs.Elements.{sides, AreBoxes, AreUnlike, BothLast, HasNoStep, HasOtherLoad, IsBin, IsClash, IsCount, IsDifference, IsDifferentRow, IsEarly, IsEarlyInChain, IsEarlySet, IsInNoSet, IsLoad, IsNoIndex, IsNoIndexOf, IsNotBack, IsOneWay, IsOtherRun, IsOtherTotal, IsOutside, IsOverlap, IsShared, IsShortRing, IsUnsorted, LeavesOut, agree, comes_before, relates, Relation, Equal, AtMost, Below, AtLeast, Sides}
pub use Rattle.fz_reasons.specs.declared.reason.{ElementKind.ElementKind, Negative.Negative, Quantity.Quantity, OtherNumber.OtherNumber, OtherTruth.OtherTruth, Member.Member, Reason.Reason}
use Rattle.fz_reasons.specs.declared.reason.ElementKind.TheVariants as kinds
use Rattle.fz_reasons.specs.declared.reason.Quantity.TheVariants as of
use Rattle.fz_reasons.specs.declared.reason.Reason.TheVariants as reasons
use Rattle.fz_reasons.specs.declared.reason.Why.{Why}
use Rattle.fz_reasons.specs.declared.reason.Why.TheVariants as whys

-- ---- two sides, or a result

-- the row compares two numbers, which don't compare as it asks
pub record Unlike (b : Builtin) (K : Partial) (xs : List Argument) (s : Sides) : Type 0 where
  pub sides : sides b K xs ≡ Some s
  pub unlike : relates s.relation s.left s.right ≡ false

-- the argument has the value, and the row holds just with the one that is wanted
pub record HasOtherNumber (b : Builtin) (K : Partial) (xs : List Argument) (o : OtherNumber)
    : Type 0 where
  pub result : HasResult (row_at b) false K xs o.argument IntKind
  pub value : int_at K xs o.argument ≡ o.value
  pub holds_with : (v : ℤ) → row_with (row_at b) K xs o.argument (Int v) ≡ is_result ◌=ℤ◌ o.wanted v
  pub other : is_result ◌=ℤ◌ o.wanted o.value ≡ false

pub record HasOtherTruth (b : Builtin) (K : Partial) (xs : List Argument) (o : OtherTruth)
    : Type 0 where
  pub result : HasResult (row_at b) false K xs o.argument BoolKind
  pub value : bool_at K xs o.argument ≡ o.value
  pub holds_with : (v : Bool)
      → row_with (row_at b) K xs o.argument (Truth v) ≡ is_result ◌=ᴮ◌ o.wanted v
  pub other : is_result ◌=ᴮ◌ o.wanted o.value ≡ false

-- ---- elements of arrays

-- the rows whose lists have Booleans
abbrev pub element_kind : Builtin → ElementKind
element_kind builtin.FznIncreasingBool = kinds.Bool
element_kind builtin.FznDecreasingBool = kinds.Bool
element_kind builtin.FznLexLessBool = kinds.Bool
element_kind builtin.FznLexLesseqBool = kinds.Bool
element_kind builtin.FznMemberBool = kinds.Bool
element_kind builtin.FznTableBool = kinds.Bool
element_kind b = kinds.Int

-- the elements of a list as numbers
abbrev pub numbers_of : ElementKind → Partial → List (Option Term) → List ℤ
numbers_of kinds.Int K ss = ints_of K ss
numbers_of kinds.Bool K ss = map as_number (bools_of K ss)

abbrev pub numbers_at : ElementKind → Partial → List Argument → ℕ → List ℤ
numbers_at kind K xs i = numbers_of kind K (slots_at xs i)

-- how each element of the first argument has to compare with the next one
abbrev pub neighbours_of : Builtin → Option Relation
neighbours_of builtin.FznAllEqualInt = Some Equal
neighbours_of builtin.FznIncreasingInt = Some AtMost
neighbours_of builtin.FznDecreasingInt = Some AtLeast
neighbours_of builtin.FznStrictlyIncreasingInt = Some Below
neighbours_of builtin.FznIncreasingBool = Some AtMost
neighbours_of builtin.FznDecreasingBool = Some AtLeast
neighbours_of b = None

-- ---- tasks, boxes and bins

-- the numbers of a row that must not be below 0
abbrev pub naturals : Builtin → Quantity → Partial → List Argument → List ℤ
naturals builtin.FznDisjunctive of.Duration K xs = ints_at K xs 1
naturals builtin.FznDisjunctiveStrict of.Duration K xs = ints_at K xs 1
naturals builtin.FznCumulative of.Duration K xs = ints_at K xs 1
naturals builtin.FznCumulative of.Use K xs = ints_at K xs 2
naturals builtin.FznCumulative of.Limit K xs = int_at K xs 3 ∷ []
naturals builtin.FznKnapsack of.Number K xs = ints_at K xs 2
naturals builtin.FznKnapsack of.Weight K xs = int_at K xs 3 ∷ []
naturals builtin.FznKnapsack of.Profit K xs = int_at K xs 4 ∷ []
naturals builtin.FznSlidingSum of.Width K xs = int_at K xs 2 ∷ []
naturals builtin.GecodeAmongSeqInt of.Width K xs = int_at K xs 2 ∷ []
naturals b q K xs = []

-- in a row of tasks, the index is that of one; a limit is at 0, and counts where there is a task
abbrev pub IsTask : Builtin → Partial → List Argument → ℕ → Type 0
IsTask builtin.FznDisjunctive K xs i = i < length (ints_at K xs 0)
IsTask builtin.FznDisjunctiveStrict K xs i = i < length (ints_at K xs 0)
IsTask builtin.FznCumulative K xs i =
    (i < length (ints_at K xs 0)) × (i < length (ints_at K xs 1)) × (i < length (ints_at K xs 2))
IsTask b K xs i = ⊤

-- no sum of the row leaves 128 bits
abbrev pub AddsUp : Builtin → Partial → List Argument → Type 0
AddsUp b K xs = reads_beyond (row_at b) K xs ≡ false

pub record IsNegative (b : Builtin) (K : Partial) (xs : List Argument) (n : Negative) : Type 0 where
  pub there : slice_get (naturals b n.quantity K xs) n.place ≡ Some n.value
  pub task : IsTask b K xs n.place
  pub below : is_natural n.value ≡ false
  pub added : AddsUp b K xs

-- ---- sets

-- whether a row over sets fails by a number that is in the first, the second and the third set, or
-- not
abbrev pub is_misplaced : Builtin → Bool → Bool → Bool → Bool
is_misplaced builtin.SetEq x y z = not (x =ᴮ y)
is_misplaced builtin.SetSubset x y z = x && not y
is_misplaced builtin.SetSuperset x y z = y && not x
is_misplaced builtin.SetUnion x y z = not (z =ᴮ (x || y))
is_misplaced builtin.SetIntersect x y z = not (z =ᴮ (x && y))
is_misplaced builtin.SetDiff x y z = not (z =ᴮ (x && not y))
is_misplaced builtin.SetSymdiff x y z = not (z =ᴮ not (x =ᴮ y))
is_misplaced builtin.FznDisjoint x y z = x && y
is_misplaced builtin.SetConvex x y z = x && not y && z
is_misplaced builtin.ArraySetElement x y z = not (x =ᴮ y)
is_misplaced builtin.GecodeArraySetElementUnion x y z = not (x =ᴮ y) || z
is_misplaced builtin.GecodeRange x y z = not (x =ᴮ y) || z
is_misplaced builtin.FznPartitionSet x y z = not (x =ᴮ y)
is_misplaced builtin.GecodeLinkSetToBooleans x y z = not (x =ᴮ y)
is_misplaced b x y z = false

-- the number is in the set, and isn't one of so many indices, from o on
abbrev pub is_no_index : ℤ → ℕ → NumberSet → ℤ → Bool
is_no_index o n s q = sets.contains s q && not (lies_between o ((o +ℤ pos n) -ℤ pos 1) q)

-- in which of the sets that the row compares a number is: above an element of the set, in the set,
-- and below an element; in the element at the index, and in the set; in one of the chosen sets, or
-- one of the chosen elements, in the set, and in that of indices but none; in one of the sets, and
-- in the whole; in the set, and among the indices of what is true; or in its arguments
abbrev pub in_sets : Builtin → Partial → List Argument → ℤ → Bool × Bool × Bool
in_sets builtin.SetConvex K xs q = (
  list_any (λ x. int_lt x q) (sets.items (set_at K xs 0)),
  sets.contains (set_at K xs 0) q,
  list_any (λ x. int_lt q x) (sets.items (set_at K xs 0)),
)
in_sets builtin.ArraySetElement K xs q = (
  option_map_or (λ s. sets.contains s q) (element_at (sets_at K xs 1) (int_at K xs 0)) false,
  sets.contains (set_at K xs 2) q,
  false,
)
in_sets builtin.GecodeArraySetElementUnion K xs q = (
  list_any (λ s. sets.contains s q) (chosen (pos 1) (sets_at K xs 1) (set_at K xs 0)),
  sets.contains (set_at K xs 2) q,
  is_no_index (pos 1) (length (sets_at K xs 1)) (set_at K xs 0) q,
)
in_sets builtin.GecodeRange K xs q = (
  is_among q (chosen (int_at K xs 1) (ints_at K xs 0) (set_at K xs 2)),
  sets.contains (set_at K xs 3) q,
  is_no_index (int_at K xs 1) (length (ints_at K xs 0)) (set_at K xs 2) q,
)
in_sets builtin.FznPartitionSet K xs q =
    (list_any (λ s. sets.contains s q) (sets_at K xs 0), sets.contains (set_at K xs 1) q, false)
in_sets builtin.GecodeLinkSetToBooleans K xs q = (
  sets.contains (set_at K xs 0) q,
  option_map_or (λ t. t) (element_at (bools_at K xs 1) ((q -ℤ int_at K xs 2) +ℤ pos 1)) false,
  false,
)
in_sets b K xs q = (
  sets.contains (set_at K xs 0) q,
  sets.contains (set_at K xs 1) q,
  sets.contains (set_at K xs 2) q,
)

pub record IsMisplaced (b : Builtin) (K : Partial) (xs : List Argument) (m : Member) : Type 0 where
  pub places : in_sets b K xs m.number ≡ (m.first, m.second, m.third)
  pub misplaced : is_misplaced b m.first m.second m.third ≡ true

-- ---- all kinds

unfoldable pub Says : Builtin → Partial → List Argument → Reason → Type 0
Says b K xs (reasons.Sides s) = Unlike b K xs s
Says b K xs (reasons.Number o) = HasOtherNumber b K xs o
Says b K xs (reasons.Truth o) = HasOtherTruth b K xs o
Says b K xs (reasons.Neighbours n) =
    (neighbours_of b ≡ Some n.sides.relation)
    × AreUnlike n.sides.relation (numbers_at (element_kind b) K xs 0) n
Says b K xs (reasons.Negative n) = IsNegative b K xs n
Says b K xs (reasons.Member m) = IsMisplaced b K xs m
Says builtin.BoolClause K xs reasons.NoLiteral =
    (list_any (λ x. x) (bools_at K xs 0) ≡ false)
    × (list_any (λ x. not x) (bools_at K xs 1) ≡ false)
Says builtin.ArrayBoolXor K xs reasons.Even =
    is_odd (length (filter (λ x. x) (bools_at K xs 0))) ≡ false
Says builtin.FznAllDifferentInt K xs (reasons.Clash c) = IsClash (ints_at K xs 0) c
Says builtin.FznAlldifferentExcept0 K xs (reasons.Clash c) =
    IsClash (ints_at K xs 0) c × (is_nonzero c.value ≡ true)
Says builtin.FzcheckSubcircuit K xs (reasons.Clash c) = IsClash (ints_at K xs 1) c
Says builtin.FznPartitionSet K xs (reasons.Clash c) = IsShared (sets_at K xs 0) c
-- a value of the cover comes too often or too seldom, or an element isn't one
Says builtin.FznGlobalCardinality K xs (reasons.Count c) =
    IsCount Equal (ints_at K xs 0) (ints_at K xs 1) (ints_at K xs 2) c
Says builtin.FznGlobalCardinalityClosed K xs (reasons.Count c) =
    IsCount Equal (ints_at K xs 0) (ints_at K xs 1) (ints_at K xs 2) c
Says builtin.FznGlobalCardinalityLowUp K xs (reasons.Count c) =
    IsCount AtLeast (ints_at K xs 0) (ints_at K xs 1) (ints_at K xs 2) c
    ⊎ IsCount AtMost (ints_at K xs 0) (ints_at K xs 1) (ints_at K xs 3) c
Says builtin.FznGlobalCardinalityLowUpClosed K xs (reasons.Count c) =
    IsCount AtLeast (ints_at K xs 0) (ints_at K xs 1) (ints_at K xs 2) c
    ⊎ IsCount AtMost (ints_at K xs 0) (ints_at K xs 1) (ints_at K xs 3) c
Says builtin.FznDistribute K xs (reasons.Count c) =
    IsCount Equal (ints_at K xs 2) (ints_at K xs 1) (ints_at K xs 0) c
Says builtin.FznGlobalCardinalityClosed K xs (reasons.Outside e) =
    IsOutside (ints_at K xs 0) (ints_at K xs 1) e
Says builtin.FznGlobalCardinalityLowUpClosed K xs (reasons.Outside e) =
    IsOutside (ints_at K xs 0) (ints_at K xs 1) e
-- a number, or a Boolean as one, isn't in the list or in the set
Says builtin.FznMemberInt K xs (reasons.NotListed v) =
    (int_at K xs 1 ≡ v) × (is_among v (ints_at K xs 0) ≡ false)
Says builtin.FznMemberBool K xs (reasons.NotListed v) =
    (as_number (bool_at K xs 1) ≡ v)
    × (list_any (λ x. x =ᴮ bool_at K xs 1) (bools_at K xs 0) ≡ false)
Says builtin.SetIn K xs (reasons.NotListed v) =
    (int_at K xs 0 ≡ v) × (sets.contains (set_at K xs 1) v ≡ false)
Says builtin.SetNe K xs reasons.Same = (set_at K xs 0 =ˢ set_at K xs 1) ≡ true
-- tasks, boxes and bins
Says builtin.FznDisjunctive K xs (reasons.Overlap o) =
    IsOverlap (ints_at K xs 0) (ints_at K xs 1) o × BothLast o
Says builtin.FznDisjunctiveStrict K xs (reasons.Overlap o) =
    IsOverlap (ints_at K xs 0) (ints_at K xs 1) o
Says builtin.GecodeScheduleUnary K xs (reasons.Overlap o) =
    IsOverlap (ints_at K xs 0) (ints_at K xs 1) o
Says builtin.FznDiffn K xs (reasons.Boxes t) =
    AreBoxes (ints_at K xs 0) (ints_at K xs 1) (ints_at K xs 2) (ints_at K xs 3) t
Says builtin.FznDiffnNonstrict K xs (reasons.Boxes t) =
    AreBoxes (ints_at K xs 0) (ints_at K xs 1) (ints_at K xs 2) (ints_at K xs 3) t
    × BothLast t.across × BothLast t.along
Says builtin.GecodeNooverlap K xs (reasons.Boxes t) =
    AreBoxes (ints_at K xs 0) (ints_at K xs 2) (ints_at K xs 1) (ints_at K xs 3) t
Says builtin.FznCumulative K xs (reasons.Load l) =
    IsLoad (ints_at K xs 0) (ints_at K xs 1) (ints_at K xs 2) (int_at K xs 3) l
Says builtin.FznBinPacking K xs (reasons.Bin l) =
    IsBin (ints_at K xs 1) (ints_at K xs 2) (int_at K xs 0) l
Says builtin.GecodeBinPackingLoad K xs (reasons.BinLoad l) =
    HasOtherLoad (ints_at K xs 1) (ints_at K xs 2) (ints_at K xs 0) (int_at K xs 3) l
Says builtin.FznKnapsack K xs (reasons.Weight t) =
    IsOtherTotal (ints_at K xs 0) (ints_at K xs 2) (int_at K xs 3) t
    × AddsUp builtin.FznKnapsack K xs
Says builtin.FznKnapsack K xs (reasons.Profit t) =
    IsOtherTotal (ints_at K xs 1) (ints_at K xs 2) (int_at K xs 4) t
    × AddsUp builtin.FznKnapsack K xs
Says builtin.FznSlidingSum K xs (reasons.Run r) =
    IsOtherRun (int_at K xs 0) (int_at K xs 1) (int_at K xs 2) (ints_at K xs 3) r
Says builtin.GecodeAmongSeqInt K xs (reasons.Run r) =
    IsOtherRun (int_at K xs 3) (int_at K xs 4) (int_at K xs 2)
    (marks (set_at K xs 1) (ints_at K xs 0)) r
-- the first list comes before the second, or doesn't come after it; or, in ascending order, is the
-- second
Says builtin.FznLexLessInt K xs (reasons.Difference d) =
    IsDifference (ints_at K xs 0) (ints_at K xs 1) d × (comes_before d.left d.right ≡ false)
    × (agree d.left d.right ≡ false)
Says builtin.FznLexLesseqInt K xs (reasons.Difference d) =
    IsDifference (ints_at K xs 0) (ints_at K xs 1) d × (comes_before d.right d.left ≡ true)
Says builtin.FznLexLessBool K xs (reasons.Difference d) =
    IsDifference (numbers_at kinds.Bool K xs 0) (numbers_at kinds.Bool K xs 1) d
    × (comes_before d.left d.right ≡ false) × (agree d.left d.right ≡ false)
Says builtin.FznLexLesseqBool K xs (reasons.Difference d) =
    IsDifference (numbers_at kinds.Bool K xs 0) (numbers_at kinds.Bool K xs 1) d
    × (comes_before d.right d.left ≡ true)
Says builtin.FznSort K xs (reasons.Difference d) = IsUnsorted (ints_at K xs 0) (ints_at K xs 1) d
-- a value comes too early
Says builtin.FznValuePrecedeInt K xs (reasons.Early e) =
    IsEarly (ints_at K xs 2) e × (e.before ≡ int_at K xs 0) × (e.value ≡ int_at K xs 1)
Says builtin.GecodePrecede K xs (reasons.Early e) =
    IsEarly (ints_at K xs 0) e × (e.before ≡ int_at K xs 1) × (e.value ≡ int_at K xs 2)
Says builtin.GecodePrecedeSet K xs (reasons.Early e) =
    IsEarlySet (sets_at K xs 0) e × (e.before ≡ int_at K xs 1) × (e.value ≡ int_at K xs 2)
Says builtin.FznValuePrecedeChainInt K xs (reasons.Early e) =
    IsEarlyInChain (ints_at K xs 0) (ints_at K xs 1) e
Says builtin.FznSeqPrecedeChainInt K xs (reasons.Early e) =
    IsEarly (ints_at K xs 0) e × (e.before ≡ e.value -ℤ pos 1) × (int_lt (pos 1) e.value ≡ true)
-- a list, which may be one of sets, leads where the other doesn't lead back
Says builtin.InverseOffsets K xs (reasons.OneWay w) =
    IsOneWay (ints_at K xs 0) (int_at K xs 1) (ints_at K xs 2) (int_at K xs 3) w
Says builtin.InverseOffsets K xs (reasons.OtherWay w) =
    IsOneWay (ints_at K xs 2) (int_at K xs 3) (ints_at K xs 0) (int_at K xs 1) w
Says builtin.GecodeIntSetChannel K xs (reasons.OneWay w) =
    IsInNoSet (ints_at K xs 0) (int_at K xs 1) (sets_at K xs 2) (int_at K xs 3) w
Says builtin.GecodeIntSetChannel K xs (reasons.OtherWay w) =
    IsNoIndexOf (sets_at K xs 2) (int_at K xs 3) (ints_at K xs 0) (int_at K xs 1) w
Says builtin.GecodeInverseSet K xs (reasons.OneWay w) =
    IsNotBack (sets_at K xs 0) (int_at K xs 2) (sets_at K xs 1) (int_at K xs 3) w
Says builtin.GecodeInverseSet K xs (reasons.OtherWay w) =
    IsNotBack (sets_at K xs 1) (int_at K xs 3) (sets_at K xs 0) (int_at K xs 2) w
-- an element has to be an index, a bin that has a load, or an index of a set
Says builtin.GecodeCircuit K xs (reasons.NoIndex o) =
    IsNoIndex (ints_at K xs 1) (int_at K xs 0) (length (ints_at K xs 1)) o
Says builtin.FzcheckSubcircuit K xs (reasons.NoIndex o) =
    IsNoIndex (ints_at K xs 1) (int_at K xs 0) (length (ints_at K xs 1)) o
Says builtin.GecodeBinPackingLoad K xs (reasons.NoIndex o) =
    IsNoIndex (ints_at K xs 1) (int_at K xs 3) (length (ints_at K xs 0)) o
Says builtin.ArraySetElement K xs (reasons.NoIndex o) =
    IsNoIndex (int_at K xs 0 ∷ []) (pos 1) (length (sets_at K xs 1)) o
Says builtin.GecodeCircuit K xs (reasons.Ring c) =
    IsShortRing (as_places (int_at K xs 0) (ints_at K xs 1)) c
Says builtin.FzcheckSubcircuit K xs (reasons.Ring c) =
    LeavesOut (as_places (int_at K xs 0) (ints_at K xs 1)) c
-- the automaton begins in what is no state, stops, or ends in a state that isn't one of the last
Says builtin.FznRegular K xs (reasons.BeginsIn q) =
    (int_at K xs 4 ≡ q) × (lies_between (pos 1) (int_at K xs 1) q ≡ false)
Says builtin.FznRegular K xs (reasons.NoStep n) =
    HasNoStep (ints_at K xs 0) (int_at K xs 1) (int_at K xs 2) (ints_at K xs 3) (int_at K xs 4) n
Says builtin.FznRegular K xs (reasons.EndsIn q) =
    (run (int_at K xs 1) (int_at K xs 2) (ints_at K xs 3) (int_at K xs 4) (ints_at K xs 0) ≡ Some q)
    × (lies_between (pos 1) (int_at K xs 1) q ≡ true) × (sets.contains (set_at K xs 5) q ≡ false)
-- no row of the table is the list; the one that is told differs from it at the index that is told
Says builtin.FznTableInt K xs (reasons.NearRow n) =
    (is_row_of ◌=ℤ◌ (ints_at K xs 0) (ints_at K xs 1) ≡ false)
    × IsDifferentRow (ints_at K xs 0) (ints_at K xs 1) n
Says builtin.FznTableBool K xs (reasons.NearRow n) =
    (is_row_of ◌=ᴮ◌ (bools_at K xs 0) (bools_at K xs 1) ≡ false)
    × IsDifferentRow (numbers_at kinds.Bool K xs 0) (numbers_at kinds.Bool K xs 1) n
Says b K xs r = ⊥

-- the contract of `a_row_fails_by_its_reason`: where a reason is so, the row fails, whatever else
-- the values are
abbrev pub RowsFail : Type 0
RowsFail = (b : Builtin) (K : Partial) (xs : List Argument) (r : Reason) → Says b K xs r
    → row_outcome (row_at b) K xs ≡ outcomes.Truth false

-- ---- the forms of a row

-- the control variable of a form of the row, which comes after the row's arguments
abbrev pub control : Builtin → Partial → List Argument → Bool
control b K xs = bool_at K xs (length (row_at b).shapes)

-- where the form has a control variable, it is true
abbrev pub IsAsked : Form → Bool → Type 0
IsAsked Base t = ⊤
IsAsked Reified t = t ≡ true
IsAsked Implied t = t ≡ true

-- a form by which a row must not hold
abbrev pub IsForbidden : Form → Bool → Type 0
IsForbidden Base t = ⊥
IsForbidden Reified t = t ≡ false
IsForbidden Implied t = ⊥

abbrev pub SaysWhy : Known → Partial → List Argument → Why → Type 0
SaysWhy k K xs (whys.Fails r) = IsAsked k.form (control k.builtin K xs) × Says k.builtin K xs r
SaysWhy k K xs whys.Holds =
    IsForbidden k.form (control k.builtin K xs)
    × (row_outcome (row_at k.builtin) K xs ≡ outcomes.Truth true)

-- the contract of `a_form_fails_by_its_reason`
abbrev pub FormsFail : Type 0
FormsFail = (k : Known) (K : Partial) (xs : List Argument) (w : Why) → SaysWhy k K xs w
    → row_outcome (known_row k) K xs ≡ outcomes.Truth false
