-- What the rows of the table of builtins speak of (MiniZinc Handbook, "FlatZinc builtins").
use Rattle.std.specs.Prelude.{ℕ, suc, zero, ℤ, pos, negsuc, ◌+ℤ◌, ◌*ℤ◌, Bool, true, false, not, ◌&&◌, List, [], ◌∷◌, int_le, Option, Some, None, ◌%◌, ◌-ℤ◌, ◌||◌, if◌then◌else◌, nat_eq, drop, take, length, map, int_lt, unsigned_abs, option_and_then}
use Rattle.std.specs.List.{list_all, list_any, filter, zip}
use Rattle.std.specs.Option.{option_map_or}
use Rattle.std.specs.Ordering.{int_eq}
use Rattle.std.specs.FinSet as sets
use Rattle.fz_base.specs.Sets.{NumberSet, numbers_between}
use Rattle.fz_base.specs.declared.value.Value.{Value}
use Rattle.fz_base.specs.declared.value.Value.TheVariants.{Int, Bool as Truth, Set}
use Rattle.fz_meaning.specs.declared.kind.Kind.{Kind}
use Rattle.fz_meaning.specs.declared.kind.Kind.TheVariants.{Int as IntKind, Bool as BoolKind, Set as SetKind}
use Rattle.std.specs.Int.{int_max}

abbrev pub kind_of : Value → Kind
kind_of (Int n) = IntKind
kind_of (Truth b) = BoolKind
kind_of (Set s) = SetKind

abbrev pub same_kind : Kind → Kind → Bool
same_kind IntKind IntKind = true
same_kind BoolKind BoolKind = true
same_kind SetKind SetKind = true
same_kind _ _ = false

-- ---- equality as a test, of each kind

infix 50 ◌=ℤ◌ ◌=ᴮ◌ ◌=ˢ◌
abbrev pub ◌=ℤ◌ : ℤ → ℤ → Bool
a =ℤ b = int_eq a b

abbrev pub ◌=ᴮ◌ : Bool → Bool → Bool
true =ᴮ b = b
false =ᴮ b = not b

-- each element of one set is in the other
abbrev pub ◌=ˢ◌ : NumberSet → NumberSet → Bool
a =ˢ b = sets.is_subset a b && sets.is_subset b a

-- the sum of integers
abbrev pub total : List ℤ → ℤ
total [] = pos 0
total (n ∷ ns) = n +ℤ total ns

-- a[i] * b[i] at each index
abbrev pub products : List ℤ → List ℤ → List ℤ
products (a ∷ as') (b ∷ bs) = (a *ℤ b) ∷ products as' bs
products _ _ = []

-- the a[i] for which b[i] is true
abbrev pub where_true : List ℤ → List Bool → List ℤ
where_true (a ∷ as') (true ∷ bs) = a ∷ where_true as' bs
where_true (a ∷ as') (false ∷ bs) = where_true as' bs
where_true _ _ = []

-- the element at an index, counted from 1
abbrev pub element_at : {A : Type 0} → List A → ℤ → Option A
element_at [] n = None
element_at (x ∷ xs) (pos zero) = None
element_at (x ∷ xs) (pos (suc zero)) = Some x
element_at (x ∷ xs) (pos (suc (suc n))) = element_at xs (pos (suc n))
element_at (x ∷ xs) (negsuc n) = None

-- a is an index of b, and b[a] is c
abbrev pub is_element : {A : Type 0} → (A → A → Bool) → ℤ → List A → A → Bool
is_element same a b c = option_map_or (λ x. same x c) (element_at b a) false

-- whether the number is an element of the list
abbrev pub is_among : ℤ → List ℤ → Bool
is_among a b = list_any (λ x. x =ℤ a) b

abbrev pub is_odd : ℕ → Bool
is_odd zero = false
is_odd (suc n) = not (is_odd n)

-- the number 1 for true and 0 for false
abbrev pub as_number : Bool → ℤ
as_number true = pos 1
as_number false = pos 0

-- no two elements at different indices are equal
abbrev pub all_different : List ℤ → Bool
all_different [] = true
all_different (a ∷ as') = not (is_among a as') && all_different as'

-- ---- lists

abbrev pub option_cons : {A : Type 0} → Option A → Option (List A) → Option (List A)
option_cons (Some x) (Some xs) = Some (x ∷ xs)
option_cons _ _ = None

-- all of them, where each is there
abbrev pub all_some : {A : Type 0} → List (Option A) → Option (List A)
all_some [] = Some []
all_some (o ∷ os) = option_cons o (all_some os)

-- each pair of elements at the same position passes
abbrev pub all_both : {A B : Type 0} → (A → B → Bool) → List A → List B → Bool
all_both p (x ∷ xs) (y ∷ ys) = p x y && all_both p xs ys
all_both p _ _ = true

-- each element passes with each later one
abbrev pub all_pairs : {A : Type 0} → (A → A → Bool) → List A → Bool
all_pairs p [] = true
all_pairs p (x ∷ xs) = list_all (p x) xs && all_pairs p xs

-- each element passes with the next one
abbrev pub all_neighbours : {A : Type 0} → (A → A → Bool) → List A → Bool
all_neighbours p (x ∷ y ∷ xs) = p x y && all_neighbours p (y ∷ xs)
all_neighbours p _ = true

-- the lists have the same elements in the same order
abbrev pub is_same_list : {A : Type 0} → (A → A → Bool) → List A → List A → Bool
is_same_list same [] [] = true
is_same_list same (x ∷ xs) (y ∷ ys) = same x y && is_same_list same xs ys
is_same_list same _ _ = false

-- the first list comes before the second in lexicographic order: a proper prefix comes first
abbrev pub is_before : {A : Type 0} → (less same : A → A → Bool) → List A → List A → Bool
is_before less same [] (y ∷ ys) = true
is_before less same (x ∷ xs) (y ∷ ys) = less x y || (same x y && is_before less same xs ys)
is_before less same _ [] = false

-- the list cut into rows of n elements; the first argument is at least the number of rows
abbrev pub rows_within : {A : Type 0} → ℕ → ℕ → List A → List (List A)
rows_within (suc k) n (x ∷ xs) = take n (x ∷ xs) ∷ rows_within k n (drop n (x ∷ xs))
rows_within _ n _ = []

abbrev pub rows_of : {A : Type 0} → ℕ → List A → List (List A)
rows_of n xs = rows_within (length xs) n xs

-- a list that isn't empty is a row of the table, which is written row by row
abbrev pub is_row_of : {A : Type 0} → (A → A → Bool) → List A → List A → Bool
is_row_of same [] t = false
is_row_of same (x ∷ xs) t = nat_eq (length t % length (x ∷ xs)) 0
    && list_any (is_same_list same (x ∷ xs)) (rows_of (length (x ∷ xs)) t)

-- the runs of so many neighbours: of none there is one before each element, and one at the end
abbrev pub windows : {A : Type 0} → ℕ → List A → List (List A)
windows k [] = if nat_eq k 0 then [] ∷ [] else []
windows k (x ∷ xs) =
    if nat_eq (length (take k (x ∷ xs))) k then take k (x ∷ xs) ∷ windows k xs else []

-- ---- counting

-- the number of positions at which the list has the value
abbrev pub count_of : List ℤ → ℤ → ℤ
count_of xs v = pos (length (filter (λ x. x =ℤ v) xs))

-- the number of positions at which the list has an element of the set
abbrev pub count_in : List ℤ → NumberSet → ℤ
count_in xs s = pos (length (filter (λ x. sets.contains s x) xs))

-- each value once
abbrev pub values_of : List ℤ → List ℤ
values_of [] = []
values_of (x ∷ xs) = if is_among x xs then values_of xs else x ∷ values_of xs

abbrev pub is_nonzero : ℤ → Bool
is_nonzero n = not (n =ℤ pos 0)

-- each value of the cover comes as often as its number says
abbrev pub counts_are : List ℤ → List ℤ → List ℤ → Bool
counts_are xs cover ns = all_both (λ v n. count_of xs v =ℤ n) cover ns

-- each value of the cover comes at least and at most so often
abbrev pub counts_lie : List ℤ → List ℤ → List ℤ → List ℤ → Bool
counts_lie xs cover least most = all_both (λ v n. int_le n (count_of xs v)) cover least
    && all_both (λ v n. int_le (count_of xs v) n) cover most

-- 1 for each element that is in the set, and 0 for each other one
abbrev pub marks : NumberSet → List ℤ → List ℤ
marks s xs = map (λ x. as_number (sets.contains s x)) xs

-- each element is a value of the cover
abbrev pub is_closed : List ℤ → List ℤ → Bool
is_closed xs cover = list_all (λ x. is_among x cover) xs

-- ---- tasks

abbrev pub is_natural : ℤ → Bool
is_natural n = int_le (pos 0) n

-- what starts at a time, and how long it lasts
abbrev pub Span : Type 0
Span = ℤ × ℤ

-- it runs at the time
abbrev pub runs_at : ℤ → Span → Bool
runs_at time (s, d) = int_le s time && int_lt time (s +ℤ d)

-- it ends where the other begins, or before
abbrev pub ends_before : Span → Span → Bool
ends_before (s, d) (t, e) = int_le (s +ℤ d) t

abbrev pub are_apart : Span → Span → Bool
are_apart a b = ends_before a b || ends_before b a

abbrev pub is_empty_span : Span → Bool
is_empty_span (s, d) = d =ℤ pos 0

-- the sum of what is used by the tasks that run at the time
abbrev pub used_at : ℤ → List (Span × ℤ) → ℤ
used_at time tasks = total (map (λ k. k.1) (filter (λ k. runs_at time k.0) tasks))

-- at no start of a task that lasts and uses something is more used than there is
abbrev pub is_cumulative : List (Span × ℤ) → ℤ → Bool
is_cumulative tasks most = list_all (λ k. is_natural k.0.1 && is_natural k.1) tasks
    && (nat_eq (length tasks) 0 || is_natural most)
    && list_all (λ k. (k.0.1 =ℤ pos 0) || (k.1 =ℤ pos 0) || int_le (used_at k.0.0 tasks) most) tasks

abbrev pub last_naturally : List Span → Bool
last_naturally = list_all (λ k. is_natural k.1)

-- no two tasks that last run at one time; strictly, one that doesn't last must not start within
-- another either
abbrev pub is_disjunctive : List Span → Bool
is_disjunctive tasks = last_naturally tasks
    && all_pairs (λ a b. is_empty_span a || is_empty_span b || are_apart a b) tasks

abbrev pub is_strictly_disjunctive : List Span → Bool
is_strictly_disjunctive tasks = last_naturally tasks && all_pairs are_apart tasks

-- a box, as the span that it covers along each of two axes
abbrev pub Box : Type 0
Box = Span × Span

abbrev pub lie_apart : Box → Box → Bool
lie_apart (x, y) (u, v) = are_apart x u || are_apart y v

abbrev pub has_no_area : Box → Bool
has_no_area (x, y) = is_empty_span x || is_empty_span y

abbrev pub boxes : List ℤ → List ℤ → List ℤ → List ℤ → List Box
boxes x y width height = zip (zip x width) (zip y height)

abbrev pub overlap_nowhere : List Box → Bool
overlap_nowhere = all_pairs lie_apart

abbrev pub overlap_in_no_area : List Box → Bool
overlap_in_no_area = all_pairs (λ a b. has_no_area a || has_no_area b || lie_apart a b)

-- the sum of the weights of what lies in a bin
abbrev pub load_of : List ℤ → List ℤ → ℤ → ℤ
load_of bins weights bin = total (map (λ p. p.1) (filter (λ p. p.0 =ℤ bin) (zip bins weights)))

-- each bin from this one on has the load that is given for it
abbrev pub loads_are : ℤ → List ℤ → List ℤ → List ℤ → Bool
loads_are bin bins weights [] = true
loads_are bin bins weights (n ∷ ns) =
    (n =ℤ load_of bins weights bin) && loads_are (bin +ℤ pos 1) bins weights ns

-- ---- lists of successors

-- indices that begin with o, as positions
abbrev pub as_places : ℤ → List ℤ → List ℤ
as_places o xs = map (λ x. (x -ℤ o) +ℤ pos 1) xs

abbrev pub lies_between : ℤ → ℤ → ℤ → Bool
lies_between low high n = int_le low n && int_le n high

-- each is one of n positions
abbrev pub are_places : ℕ → List ℤ → Bool
are_places n = list_all (lies_between (pos 1) (pos n))

-- the first positions of a tour: from one on, each next one is what the list has at the one before;
-- and the position that follows the last of them
abbrev pub tour : List ℤ → ℕ → ℤ → List ℤ
tour next zero p = []
tour next (suc k) p = p ∷ option_map_or (tour next k) (element_at next p) []

abbrev pub end_of_tour : List ℤ → ℕ → ℤ → Option ℤ
end_of_tour next zero p = Some p
end_of_tour next (suc k) p = option_and_then (end_of_tour next k) (element_at next p)

-- from the first position the successors lead to all, to each once, and back to the first
abbrev pub is_circuit : List ℤ → Bool
is_circuit next = are_places (length next) next && all_different (tour next (length next) (pos 1))
    && option_map_or (λ p. p =ℤ pos 1) (end_of_tour next (length next) (pos 1)) false

-- the positions, from one on, that aren't their own successors
abbrev pub moved_from : ℤ → List ℤ → List ℤ
moved_from p [] = []
moved_from p (x ∷ xs) =
    if x =ℤ p then moved_from (p +ℤ pos 1) xs else p ∷ moved_from (p +ℤ pos 1) xs

-- from the first of these positions the successors lead to as many different ones
abbrev pub is_one_tour : List ℤ → List ℤ → Bool
is_one_tour next [] = true
is_one_tour next (p ∷ ps) = all_different (tour next (length (p ∷ ps)) p)

-- a permutation, of one position at least, whose moved positions make one cycle
abbrev pub is_subcircuit : List ℤ → Bool
is_subcircuit next = are_places (length next) next && all_different next
    && is_one_tour next (moved_from (pos 1) next) && not (nat_eq (length next) 0)

-- from this position on, the second list has each position at the index that the first has there
abbrev pub leads_back : ℤ → List ℤ → List ℤ → Bool
leads_back p [] g = true
leads_back p (x ∷ xs) g =
    option_map_or (λ y. y =ℤ p) (element_at g x) false && leads_back (p +ℤ pos 1) xs g

abbrev pub are_inverse : List ℤ → List ℤ → Bool
are_inverse f g = leads_back (pos 1) f g && leads_back (pos 1) g f

-- ---- automata

-- the state to which a symbol leads, by transitions that are written row by row, one for each state
abbrev pub step : ℤ → ℤ → List ℤ → ℤ → ℤ → Option ℤ
step states symbols d q x = if lies_between (pos 1) states q && lies_between (pos 1) symbols x
    then element_at d (((q -ℤ pos 1) *ℤ symbols) +ℤ x) else None

abbrev pub run : ℤ → ℤ → List ℤ → ℤ → List ℤ → Option ℤ
run states symbols d q [] = Some q
run states symbols d q (x ∷ xs) =
    option_and_then (λ p. run states symbols d p xs) (step states symbols d q x)

-- from the first state the word leads to one of the last
abbrev pub is_word : List ℤ → ℤ → ℤ → List ℤ → ℤ → NumberSet → Bool
is_word xs states symbols d first last =
    option_map_or (λ q. lies_between (pos 1) states q && sets.contains last q)
    (run states symbols d first xs) false

-- ---- order

-- the value t comes only after an s
abbrev pub precedes : ℤ → ℤ → List ℤ → Bool
precedes s t [] = true
precedes s t (x ∷ xs) = not (x =ℤ t) && ((x =ℤ s) || precedes s t xs)

-- the set has the first number, and not the second
abbrev pub has_only : ℤ → ℤ → NumberSet → Bool
has_only s t x = sets.contains x s && not (sets.contains x t)

-- a set with t and without s comes only after one with s and without t
abbrev pub precedes_in_sets : ℤ → ℤ → List NumberSet → Bool
precedes_in_sets s t [] = true
precedes_in_sets s t (x ∷ xs) = not (has_only t s x) && (has_only s t x || precedes_in_sets s t xs)

-- each is greater by at most one than the greatest so far
abbrev pub rises_by_one : ℤ → List ℤ → Bool
rises_by_one most [] = true
rises_by_one most (x ∷ xs) = int_le x (most +ℤ pos 1) && rises_by_one (int_max most x) xs

-- the second is the first in ascending order
abbrev pub is_sorted_form : List ℤ → List ℤ → Bool
is_sorted_form xs ys = nat_eq (length xs) (length ys)
    && list_all (λ v. count_of xs v =ℤ count_of ys v) xs && all_neighbours int_le ys

-- the index of the first element that is the number
abbrev pub index_from : ℤ → List ℤ → ℤ → Option ℤ
index_from i [] n = None
index_from i (x ∷ xs) n = if x =ℤ n then Some i else index_from (i +ℤ pos 1) xs n

-- the index is that of the first element that no other exceeds in the order
abbrev pub is_index_of_best : (ℤ → ℤ → Bool) → List ℤ → ℤ → ℤ → Bool
is_index_of_best no_better xs o i = list_any (λ m. list_all (λ x. no_better x m) xs
    && option_map_or (λ j. j =ℤ i) (index_from o xs m) false) xs

-- ---- sums

-- how many there are of each thing, with their total weight and their total profit
abbrev pub is_knapsack : List ℤ → List ℤ → List ℤ → ℤ → ℤ → Bool
is_knapsack weights profits xs weight profit =
    list_all is_natural xs && is_natural weight && is_natural profit
    && (total (products weights xs) =ℤ weight) && (total (products profits xs) =ℤ profit)

abbrev pub slides_between : ℤ → ℤ → ℤ → List ℤ → Bool
slides_between low high k xs = is_natural k
    && list_all (λ w. lies_between low high (total w)) (windows (unsigned_abs k) xs)

-- ---- sets

abbrev pub are_disjoint : NumberSet → NumberSet → Bool
are_disjoint s t = sets.intersection s t =ˢ sets.empty

-- all numbers between any two elements are elements
abbrev pub is_convex : NumberSet → Bool
is_convex s = list_all (λ x. list_all (λ y. sets.is_subset (numbers_between x y) s) (sets.items s))
    (sets.items s)

-- The things differ, those in the set are some of them, and their weights sum to the number.
abbrev pub is_weight_of : List ℤ → List ℤ → NumberSet → ℤ → Bool
is_weight_of things weights s n = all_different things && sets.is_subset s (sets.from_list things)
    && (n =ℤ total (map (λ p. p.1) (filter (λ p. sets.contains s p.0) (zip things weights))))

abbrev pub union_of : List NumberSet → NumberSet
union_of [] = sets.empty
union_of (s ∷ ss) = sets.union s (union_of ss)

abbrev pub is_partition : List NumberSet → NumberSet → Bool
is_partition ss whole = all_pairs are_disjoint ss && (union_of ss =ˢ whole)

-- so many indices, from o on
abbrev pub indices_from : ℤ → ℕ → NumberSet
indices_from o n = numbers_between o ((o +ℤ pos n) -ℤ pos 1)

-- the elements whose indices, from i on, are in the set
abbrev pub chosen : {A : Type 0} → ℤ → List A → NumberSet → List A
chosen i [] s = []
chosen i (x ∷ xs) s =
    if sets.contains s i then x ∷ chosen (i +ℤ pos 1) xs s else chosen (i +ℤ pos 1) xs s

-- each Boolean, from an index on, says whether that is in the set
abbrev pub flags_are : ℤ → List Bool → NumberSet → Bool
flags_are i [] s = true
flags_are i (b ∷ bs) s = (b =ᴮ sets.contains s i) && flags_are (i +ℤ pos 1) bs s

-- the set is that of the indices, from o on, whose Booleans are true
abbrev pub is_flagged : NumberSet → List Bool → ℤ → Bool
is_flagged s bs o = sets.is_subset s (indices_from o (length bs)) && flags_are o bs s

-- the indices, from one on, of the elements that are the number
abbrev pub indices_of : ℤ → List ℤ → ℤ → List ℤ
indices_of i [] n = []
indices_of i (x ∷ xs) n =
    if x =ℤ n then i ∷ indices_of (i +ℤ pos 1) xs n else indices_of (i +ℤ pos 1) xs n

-- each set, from an index on, has the indices of the numbers that are that index
abbrev pub sets_are : ℤ → List NumberSet → List ℤ → ℤ → Bool
sets_are j [] xs o = true
sets_are j (s ∷ ss) xs o =
    (s =ˢ sets.from_list (indices_of o xs j)) && sets_are (j +ℤ pos 1) ss xs o

abbrev pub are_channelled : List ℤ → ℤ → List NumberSet → ℤ → Bool
are_channelled xs xo ss so =
    list_all (lies_between so ((so +ℤ pos (length ss)) -ℤ pos 1)) xs && sets_are so ss xs xo

-- each set, from an index on, has indices of the other list alone, counted from o, and the sets
-- with these indices have its own index
abbrev pub refer_back : ℤ → List NumberSet → ℤ → List NumberSet → Bool
refer_back i [] o ys = true
refer_back i (s ∷ ss) o ys = sets.is_subset s (indices_from o (length ys))
    && list_all (λ t. sets.contains t i) (chosen o ys s)
    && refer_back (i +ℤ pos 1) ss o ys

abbrev pub are_inverse_sets : List NumberSet → ℤ → List NumberSet → ℤ → Bool
are_inverse_sets xs xo ys yo = refer_back xo xs yo ys && refer_back yo ys xo xs
