-- What reasons say of the numbers that a row compares, and of the elements of arrays (this
-- project's profile). Indices count from 0.
use Rattle.std.specs.Prelude.{cond, option_and_then, ◌&&◌, ◌||◌, ◌≡◌, ◌<◌, ◌≤◌, ◌+◌, ◌*◌, ℕ, suc, ℤ, pos, ◌+ℤ◌, ◌-ℤ◌, Bool, true, false, not, List, Option, None, Some, drop, length, slice_get, take, int_le, int_lt}
use Rattle.std.specs.List.{list_all, list_any, zip}
use Rattle.std.specs.List.Sorted.{IsSorted, IsPermutation}
use Rattle.std.specs.Ordering.{int_cmp}
use Rattle.std.specs.FinSet as sets
use Rattle.std.specs.Option.{option_map_or}
use Rattle.fz_builtins.specs.of_meaning.Relations.{◌=ℤ◌, ◌=ᴮ◌, Span, are_apart, as_number, count_of, element_at, end_of_tour, has_only, is_among, lies_between, load_of, moved_from, products, run, step, total, used_at, where_true}
use Rattle.fz_builtins.specs.of_meaning.States.{leaves_128}
use Rattle.fz_builtins.specs.of_meaning.of_base.Sets.{NumberSet}
use Rattle.fz_builtins.specs.of_meaning.declared.builtin.Builtin.TheVariants as builtin
use Rattle.fz_reasons.specs.Rows.{Argument, Builtin, Partial, bool_at, bools_at, int_at, ints_at}
use Rattle.fz_reasons.specs.declared.reason.Operands.{Operands}
use Rattle.fz_reasons.specs.declared.reason.Operands.TheVariants as of
pub use Rattle.fz_reasons.specs.declared.reason.{Relation.Relation, Sides.Sides, Clash.Clash, Neighbours.Neighbours, Count.Count, Element.Element, Stretch.Stretch, Overlap.Overlap, Boxes.Boxes, Load.Load, Difference.Difference, Early.Early, OneWay.OneWay, NoStep.NoStep, NearRow.NearRow, BinLoad.BinLoad, NoIndex.NoIndex, Ring.Ring, Run.Run, Total.Total}
pub use Rattle.fz_reasons.specs.declared.reason.Relation.TheVariants.{Equal, NotEqual, AtMost, Below, AtLeast, Above}

-- how two numbers are compared
abbrev pub relates : Relation → ℤ → ℤ → Bool
relates Equal x y = x =ℤ y
relates NotEqual x y = not (x =ℤ y)
relates AtMost x y = int_le x y
relates Below x y = int_lt x y
relates AtLeast x y = int_le y x
relates Above x y = int_lt y x

-- ---- two numbers that a row compares; Booleans are compared as 0 and 1

-- the left and the right number
abbrev pub operands : Operands → Partial → List Argument → ℤ × ℤ
operands of.Scalars K xs = (int_at K xs 0, int_at K xs 1)
operands of.Products K xs = (total (products (ints_at K xs 0) (ints_at K xs 1)), int_at K xs 2)
operands of.Weights K xs = (total (where_true (ints_at K xs 0) (bools_at K xs 1)), int_at K xs 2)
operands of.Count K xs = (count_of (ints_at K xs 0) (int_at K xs 1), int_at K xs 2)
operands of.CountLast K xs = (count_of (ints_at K xs 1) (int_at K xs 2), int_at K xs 0)
operands of.Truths K xs = (as_number (bool_at K xs 0), as_number (bool_at K xs 1))
operands of.And K xs = (as_number (bool_at K xs 0 && bool_at K xs 1), as_number (bool_at K xs 2))
operands of.Or K xs = (as_number (bool_at K xs 0 || bool_at K xs 1), as_number (bool_at K xs 2))
operands of.Xor K xs =
    (as_number (not (bool_at K xs 0 =ᴮ bool_at K xs 1)), as_number (bool_at K xs 2))
operands of.All K xs = (as_number (list_all (λ x. x) (bools_at K xs 0)), as_number (bool_at K xs 1))
operands of.Any K xs = (as_number (list_any (λ x. x) (bools_at K xs 0)), as_number (bool_at K xs 1))

-- a sum of them leaves 128 bits
abbrev pub leave : Operands → Partial → List Argument → Bool
leave of.Products K xs = leaves_128 (products (ints_at K xs 0) (ints_at K xs 1))
leave o K xs = false

unfoldable pub comparison : Builtin → Option (Operands × Relation)
comparison builtin.IntNe = Some (of.Scalars, NotEqual)
comparison builtin.IntLe = Some (of.Scalars, AtMost)
comparison builtin.IntLt = Some (of.Scalars, Below)
comparison builtin.IntGe = Some (of.Scalars, AtLeast)
comparison builtin.IntGt = Some (of.Scalars, Above)
comparison builtin.IntLinEq = Some (of.Products, Equal)
comparison builtin.IntLinNe = Some (of.Products, NotEqual)
comparison builtin.IntLinLe = Some (of.Products, AtMost)
comparison builtin.BoolLe = Some (of.Truths, AtMost)
comparison builtin.BoolLt = Some (of.Truths, Below)
comparison builtin.BoolGe = Some (of.Truths, AtLeast)
comparison builtin.BoolGt = Some (of.Truths, Above)
comparison builtin.BoolAndImp = Some (of.And, AtLeast)
comparison builtin.BoolOrImp = Some (of.Or, AtLeast)
comparison builtin.BoolXorImp = Some (of.Xor, AtLeast)
comparison builtin.ArrayBoolAndImp = Some (of.All, AtLeast)
comparison builtin.ArrayBoolOrImp = Some (of.Any, AtLeast)
comparison builtin.BoolLinNe = Some (of.Weights, NotEqual)
comparison builtin.BoolLinLe = Some (of.Weights, AtMost)
comparison builtin.BoolLinLt = Some (of.Weights, Below)
comparison builtin.BoolLinGe = Some (of.Weights, AtLeast)
comparison builtin.BoolLinGt = Some (of.Weights, Above)
comparison builtin.FznCountNeq = Some (of.Count, NotEqual)
comparison builtin.FznCountGeq = Some (of.Count, AtMost)
comparison builtin.FznCountGt = Some (of.Count, Below)
comparison builtin.FznCountLeq = Some (of.Count, AtLeast)
comparison builtin.FznCountLt = Some (of.Count, Above)
comparison builtin.FznAtLeastInt = Some (of.CountLast, AtLeast)
comparison builtin.FznAtMostInt = Some (of.CountLast, AtMost)
comparison builtin.FznExactlyInt = Some (of.CountLast, Equal)
comparison b = None

-- The two numbers of a row that compares two, and how; none where a sum of them leaves 128 bits.
abbrev pub sides_of : Operands × Relation → Partial → List Argument → Option Sides
sides_of c K xs = cond (leave c.0 K xs) None (Some (record {
  left = (operands c.0 K xs).0;
  relation = c.1;
  right = (operands c.0 K xs).1;
}))

abbrev pub sides : Builtin → Partial → List Argument → Option Sides
sides b K xs = option_and_then (λ c. sides_of c K xs) (comparison b)

-- ---- elements of arrays

-- two elements with the same value
pub record IsClash (xs : List ℤ) (c : Clash) : Type 0 where
  pub order : c.one < c.other
  pub one : slice_get xs c.one ≡ Some c.value
  pub other : slice_get xs c.other ≡ Some c.value

-- two sets with the same element
pub record IsShared (ss : List NumberSet) (c : Clash) : Type 0 where
  pub order : c.one < c.other
  pub one : option_map_or (λ s. sets.contains s c.value) (slice_get ss c.one) false ≡ true
  pub other : option_map_or (λ s. sets.contains s c.value) (slice_get ss c.other) false ≡ true

-- an element and the next one, which don't compare so
pub record AreUnlike (relation : Relation) (xs : List ℤ) (n : Neighbours) : Type 0 where
  pub asked : n.sides.relation ≡ relation
  pub here : slice_get xs n.place ≡ Some n.sides.left
  pub next : slice_get xs (suc n.place) ≡ Some n.sides.right
  pub unlike : relates n.sides.relation n.sides.left n.sides.right ≡ false

-- a value of the cover, how often it is an element, and how often it has to be
pub record IsCount (relation : Relation) (xs cover ns : List ℤ) (c : Count) : Type 0 where
  pub asked : relation ≡ c.sides.relation
  pub value : slice_get cover c.place ≡ Some c.value
  pub counted : count_of xs c.value ≡ c.sides.left
  pub wanted : slice_get ns c.place ≡ Some c.sides.right
  pub unlike : relates c.sides.relation c.sides.left c.sides.right ≡ false

-- an element that isn't a value of the cover
pub record IsOutside (xs cover : List ℤ) (e : Element) : Type 0 where
  pub there : slice_get xs e.place ≡ Some e.value
  pub none : is_among e.value cover ≡ false

-- ---- tasks and boxes

abbrev pub span : Stretch → Span
span s = (s.start, s.length)

pub record IsStretch (starts lengths : List ℤ) (i : ℕ) (s : Stretch) : Type 0 where
  pub start : slice_get starts i ≡ Some s.start
  pub length : slice_get lengths i ≡ Some s.length

pub record IsOverlap (starts lengths : List ℤ) (o : Overlap) : Type 0 where
  pub order : o.one < o.other
  pub first : IsStretch starts lengths o.one o.first
  pub second : IsStretch starts lengths o.other o.second
  pub unlike : are_apart (span o.first) (span o.second) ≡ false

abbrev pub is_empty : Stretch → Bool
is_empty s = s.length =ℤ pos 0

-- both of them last
pub record BothLast (o : Overlap) : Type 0 where
  pub first : is_empty o.first ≡ false
  pub second : is_empty o.second ≡ false

-- two boxes overlap along both axes
pub record AreBoxes (x y width height : List ℤ) (t : Boxes) : Type 0 where
  pub across : IsOverlap x width t.across
  pub along : IsOverlap y height t.along
  pub one : t.across.one ≡ t.along.one
  pub other : t.across.other ≡ t.along.other

-- it is more than there is
pub record IsMore (s : Sides) : Type 0 where
  pub asked : s.relation ≡ AtMost
  pub unlike : relates s.relation s.left s.right ≡ false

-- at the start of a task that lasts and uses something more is used than there is
pub record IsLoad (starts lengths uses : List ℤ) (most : ℤ) (l : Load) : Type 0 where
  pub stretch : Stretch
  pub use' : ℤ
  pub task : IsStretch starts lengths l.task stretch
  pub need : slice_get uses l.task ≡ Some use'
  pub time : stretch.start ≡ l.time
  pub lasts : is_empty stretch ≡ false
  pub needs : (use' =ℤ pos 0) ≡ false
  pub together : used_at l.time (zip (zip starts lengths) uses) ≡ l.sides.left
  pub limit : l.sides.right ≡ most
  pub more : IsMore l.sides

-- in the bin of a thing lies more than there is room for
pub record IsBin (bins weights : List ℤ) (most : ℤ) (l : Load) : Type 0 where
  pub bin : slice_get bins l.task ≡ Some l.time
  pub together : load_of bins weights l.time ≡ l.sides.left
  pub limit : l.sides.right ≡ most
  pub more : IsMore l.sides

-- ---- orders

-- up to the index they are the same
pub record IsDifference (xs ys : List ℤ) (d : Difference) : Type 0 where
  pub same : (j : ℕ) → j < d.place → slice_get xs j ≡ slice_get ys j
  pub left : slice_get xs d.place ≡ d.left
  pub right : slice_get ys d.place ≡ d.right

-- both are the same number
abbrev pub agree : Option ℤ → Option ℤ → Bool
agree (Some x) (Some y) = x =ℤ y
agree o p = false

-- whether the first list comes before the second, by what is where they differ
abbrev pub comes_before : Option ℤ → Option ℤ → Bool
comes_before None (Some y) = true
comes_before (Some x) (Some y) = int_lt x y
comes_before o None = false

-- whether there are different numbers, or one alone
abbrev pub differ : Option ℤ → Option ℤ → Bool
differ (Some x) (Some y) = not (x =ℤ y)
differ None None = false
differ o p = true

-- the first list in ascending order, and the second, differ at the index
pub record IsUnsorted (xs ys : List ℤ) (d : Difference) : Type 0 where
  pub ascending : List ℤ
  pub same : IsPermutation xs ascending
  pub sorted : IsSorted int_cmp ascending
  pub difference : IsDifference ascending ys d
  pub unlike : differ d.left d.right ≡ true

-- the value comes at the index, and the other doesn't come before it
pub record IsEarly (xs : List ℤ) (e : Early) : Type 0 where
  pub there : slice_get xs e.place ≡ Some e.value
  pub none : (k : ℕ) → k < e.place → slice_get xs k ≡ Some e.before → ⊥

-- the set at the index has the value alone, and none before it has the other alone
pub record IsEarlySet (ss : List NumberSet) (e : Early) : Type 0 where
  pub there : option_map_or (has_only e.value e.before) (slice_get ss e.place) false ≡ true
  pub none : (k : ℕ) → k < e.place
      → option_map_or (has_only e.before e.value) (slice_get ss k) false ≡ false

-- a value of a chain comes where the one before it in the chain doesn't come before it
pub record IsEarlyInChain (chain xs : List ℤ) (e : Early) : Type 0 where
  pub link : ℕ
  pub before : slice_get chain link ≡ Some e.before
  pub value : slice_get chain (suc link) ≡ Some e.value
  pub early : IsEarly xs e

-- ---- successors and automata

-- the element of f at the index, as an index of g, and what g has there
pub record IsOneWay (f : List ℤ) (fo : ℤ) (g : List ℤ) (go : ℤ) (w : OneWay) : Type 0 where
  pub there : slice_get f w.place ≡ Some w.value
  pub back : element_at g ((w.value -ℤ fo) +ℤ pos 1) ≡ w.back
  pub other : option_map_or (λ y. ((y -ℤ go) +ℤ pos 1) =ℤ pos (suc w.place)) w.back false ≡ false

-- the index of an element isn't in the set whose index the element is, if there is one
pub record IsInNoSet (xs : List ℤ) (xo : ℤ) (ss : List NumberSet) (so : ℤ) (w : OneWay)
    : Type 0 where
  pub there : slice_get xs w.place ≡ Some w.value
  pub back : w.back ≡ None
  pub none : option_map_or (λ s. sets.contains s (xo +ℤ pos w.place))
      (element_at ss ((w.value -ℤ so) +ℤ pos 1)) false ≡ false

-- an element of a set isn't the index of an element that is the set's index
pub record IsNoIndexOf (ss : List NumberSet) (so : ℤ) (xs : List ℤ) (xo : ℤ) (w : OneWay)
    : Type 0 where
  pub there : option_map_or (λ s. sets.contains s w.value) (slice_get ss w.place) false ≡ true
  pub back : element_at xs ((w.value -ℤ xo) +ℤ pos 1) ≡ w.back
  pub other : option_map_or (λ y. ((y -ℤ so) +ℤ pos 1) =ℤ pos (suc w.place)) w.back false ≡ false

-- an element of a set isn't the index of a set that has the set's own index
pub record IsNotBack (ss : List NumberSet) (so : ℤ) (ts : List NumberSet) (to' : ℤ) (w : OneWay)
    : Type 0 where
  pub there : option_map_or (λ s. sets.contains s w.value) (slice_get ss w.place) false ≡ true
  pub back : w.back ≡ None
  pub none : option_map_or (λ t. sets.contains t (so +ℤ pos w.place))
      (element_at ts ((w.value -ℤ to') +ℤ pos 1)) false ≡ false

-- whether a symbol leads from a state to a state, which are counted from 1
abbrev pub has_step : ℤ → ℤ → List ℤ → ℤ → ℤ → Bool
has_step states symbols d q x =
    option_map_or (lies_between (pos 1) states) (step states symbols d q x) false

-- the symbols before the index lead to a state, and from it the one at the index leads to none
pub record HasNoStep (xs : List ℤ) (states symbols : ℤ) (d : List ℤ) (first : ℤ) (n : NoStep)
    : Type 0 where
  pub reached : run states symbols d first (take n.place xs) ≡ Some n.state
  pub state : lies_between (pos 1) states n.state ≡ true
  pub symbol : slice_get xs n.place ≡ Some n.symbol
  pub none : has_step states symbols d n.state n.symbol ≡ false

-- a row of the table differs from the list at the index
pub record IsDifferentRow (xs table : List ℤ) (n : NearRow) : Type 0 where
  pub value : slice_get xs n.place ≡ Some n.value
  pub wanted : slice_get table (n.row * length xs + n.place) ≡ Some n.wanted
  pub other : (n.value =ℤ n.wanted) ≡ false

-- ---- elements that are no index where they have to be one

-- the element there isn't one of n numbers from `first` on
pub record IsNoIndex (xs : List ℤ) (first : ℤ) (n : ℕ) (o : NoIndex) : Type 0 where
  pub value : slice_get xs o.place ≡ Some o.value
  pub low : first ≡ o.low
  pub high : ((first +ℤ pos n) -ℤ pos 1) ≡ o.high
  pub outside : lies_between o.low o.high o.value ≡ false

-- ---- lists of successors that make no tour; positions are counted from 1

-- from its start the successors come back to it in so many steps, which are fewer than n
pub record ComesBack (next : List ℤ) (n : ℕ) (c : Ring) : Type 0 where
  pub some : 0 < c.steps
  pub fewer : c.steps < n
  pub back : end_of_tour next c.steps c.start ≡ Some c.start

-- as many steps from the first position as there are positions lead into a ring that is shorter
pub record IsShortRing (next : List ℤ) (c : Ring) : Type 0 where
  pub ring : ComesBack next (length next) c
  pub reached : end_of_tour next (length next) (pos 1) ≡ Some c.start

-- the ring of the first position that is moved has fewer positions than are moved
pub record LeavesOut (next : List ℤ) (c : Ring) : Type 0 where
  pub ring : ComesBack next (length (moved_from (pos 1) next)) c
  pub first : slice_get (moved_from (pos 1) next) 0 ≡ Some c.start

-- ---- bins, knapsacks and runs of neighbours

-- the bin, of those that begin with `first`, has another load than the one that is given for it
pub record HasOtherLoad (bins weights loads : List ℤ) (first : ℤ) (l : BinLoad) : Type 0 where
  pub bin : (first +ℤ pos l.place) ≡ l.bin
  pub load : load_of bins weights l.bin ≡ l.load
  pub wanted : slice_get loads l.place ≡ Some l.wanted
  pub other : (l.wanted =ℤ l.load) ≡ false

-- the sum of products is another number
pub record IsOtherTotal (weights numbers : List ℤ) (n : ℤ) (t : Total) : Type 0 where
  pub is : total (products weights numbers) ≡ t.total
  pub wanted : n ≡ t.wanted
  pub other : (t.total =ℤ t.wanted) ≡ false

-- the sum of a run of so many neighbours doesn't lie within the bounds
pub record IsOtherRun (low high k : ℤ) (xs : List ℤ) (r : Run) : Type 0 where
  pub count : k ≡ pos r.count
  pub some : 0 < r.count
  pub within : r.place + r.count ≤ length xs
  pub is : total (take r.count (drop r.place xs)) ≡ r.sum
  pub outside : lies_between low high r.sum ≡ false
