-- Rows over orders, successors, automata, tours, tasks, boxes, bins, knapsacks and runs fail by their
-- reasons.
use Rattle.std.proofs.Common.{◌≡◌, ℕ, suc, zero, ◌+◌, ℤ, pos, negsuc, ◌+ℤ◌, ◌-ℤ◌, true, false, not, ◌&&◌, List, [], ◌∷◌, length, None, Some, nat_eq, option_map, refl, sym, ap, ◌∙◌, arith, Bool, ◌||◌, slice_get, int_le, subst, ◌<◌, ◌≤◌, drop, take, ap₂, unsigned_abs, ◌*ℤ◌, if◌then◌else◌, Option, int_lt, option_and_then, true≢false}
use Rattle.std.specs.Option.{option_map_or}
use Rattle.fz_builtins.proofs.of_meaning.of_base.Covers.{and-false, or-false}
use Rattle.fz_builtins.specs.of_meaning.Relations.{◌=ℤ◌, all_different, are_places, as_places, element_at, end_of_tour, is_circuit, is_one_tour, is_subcircuit, moved_from, tour, all_pairs, boxes, used_at, Span, is_natural, lies_between, load_of, loads_are, total, windows, slides_between, are_apart, is_cumulative, is_empty_span, is_knapsack, last_naturally, marks, is_before, is_word, run, step, is_same_list, leads_back, precedes, rises_by_one}
use Rattle.fz_builtins.proofs.of_meaning.Values.{same_int, int_itself}
use Rattle.fz_builtins.proofs.of_globals.Led.{different_places, placed_at, placed_counted}
use Rattle.fz_builtins.proofs.of_globals.Walked.{back_early, one_further, tour_from}
use Rattle.std.specs.List.{list_all, zip}
use Rattle.fz_builtins.proofs.Failing.{one_fails, pair_fails, zipped, alone_is, indexed_fails, comes_too_early}
use Rattle.std.proofs.lemmas.Int.{ints}
use Rattle.fz_builtins.proofs.of_kernel.Passed.{no_element}
use Rattle.fz_builtins.proofs.of_scheduling.Windowed.{one_window}
use Rattle.fz_builtins.specs.of_meaning.of_base.Sets.{NumberSet}
use Rattle.fz_reasons.specs.Elements.{IsShortRing, LeavesOut, Ring, AreBoxes, IsLoad, IsMore, IsOverlap, IsStretch, relates, span, Stretch, Overlap, Boxes, Load, Sides, HasOtherLoad, IsNoIndex, IsOtherRun, BinLoad, NoIndex, Run, Total, IsDifference, comes_before, has_step, IsEarly, IsOneWay, agree, differ, Difference, Early, OneWay}
use Rattle.std.proofs.lemmas.Bool.{and_left, and_right, false_from_ne_true, not-true}
use Rattle.std.proofs.lemmas.Bool.Decides.{nat_tests}
use Rattle.std.proofs.lemmas.Option.{none-some, same_Some}
use Rattle.fz_builtins.proofs.of_meaning.Lists.{there_is}
use Rattle.fz_reasons.specs.Rows.{Argument, Builtin, Partial, int_at, ints_at, row_at, row_outcome, set_at, sum_outcome}
use Rattle.fz_builtins.specs.declared.outcome.Outcome.TheVariants.{Truth}
use Rattle.fz_reasons.specs.Reasons.{AddsUp, IsNegative, IsTask, naturals, Negative, Quantity}
use Rattle.std.specs.Int.{int_max}
use Rattle.fz_builtins.specs.of_meaning.declared.builtin.Builtin.TheVariants as builtin
use Rattle.fz_reasons.specs.declared.reason.Quantity.TheVariants as of
use Rattle.std.specs.FinSet as sets

-- ---- tours

pub no_circuit : (f : List ℤ) → are_places (length f) f ≡ false → is_circuit f ≡ false
no_circuit f e =
    let apart = all_different (tour f (length f) (pos 1)) in
    let ends = option_map_or (λ p. p =ℤ pos 1) (end_of_tour f (length f) (pos 1)) false in
    ap (λ b. (b && apart) && ends) e

pub no_subcircuit : (f : List ℤ) → are_places (length f) f ≡ false → is_subcircuit f ≡ false
no_subcircuit f e = ap (λ b. ((b && all_different f) && is_one_tour f (moved_from (pos 1) f)) && not (nat_eq (length f) 0)) e

pub short : (f : List ℤ) (c : Ring) → IsShortRing f c → is_circuit f ≡ false
short f c says =
    let places = are_places (length f) f in
    let apart = all_different (tour f (length f) (pos 1)) in
    let ends = option_map_or (λ p. p =ℤ pos 1) (end_of_tour f (length f) (pos 1)) false in
    elim (c.start =ℤ pos 1) as (λ b. (c.start =ℤ pos 1) ≡ b → is_circuit f ≡ false) [
      | true ↦ λ same.
          let is : c.start ≡ pos 1 = same_int c.start (pos 1) same in
          let back : end_of_tour f c.steps (pos 1) ≡ Some (pos 1) = ap (λ p. end_of_tour f c.steps p) (sym is) ∙ says.ring.back ∙ ap Some is in
          let again : apart ≡ false = back_early f (length f) c.steps (pos 1) says.ring.some says.ring.fewer back in
          ap (λ b. (places && b) && ends) again ∙ ap (λ b. b && ends) (and-false places)
      | false ↦ λ other.
          let elsewhere : ends ≡ false = ap (λ o. option_map_or (λ p. p =ℤ pos 1) o false) says.reached ∙ other in
          ap (λ b. (places && apart) && b) elsewhere ∙ and-false (places && apart)
    ] refl

pub left_out : (f : List ℤ) (c : Ring) → LeavesOut f c → is_subcircuit f ≡ false
left_out f c says =
    let moved = moved_from (pos 1) f in
    let both = are_places (length f) f && all_different f in
    let some = not (nat_eq (length f) 0) in
    let again : is_one_tour f moved ≡ false = tour_from f moved c.start says.first ∙ back_early f (length moved) c.steps c.start says.ring.some says.ring.fewer says.ring.back in
    ap (λ b. (both && b) && some) again ∙ ap (λ b. b && some) (and-false both)

-- two positions with the same successor
pub entered_twice : (o : ℤ) (xs : List ℤ) → all_different xs ≡ false
    → is_subcircuit (as_places o xs) ≡ false
entered_twice o xs e =
    let f = as_places o xs in
    let rest = is_one_tour f (moved_from (pos 1) f) in
    let some = not (nat_eq (length f) 0) in
    ap (λ b. ((are_places (length f) f && b) && rest) && some) (sym (different_places o xs) ∙ e)
    ∙ ap (λ b. (b && rest) && some) (and-false (are_places (length f) f))

-- the position that follows, as the index less the first one
place_of : (o : ℤ) (g : List ℤ) (n : ℤ)
    → element_at (as_places o g) n ≡ option_map (λ y. (y -ℤ o) +ℤ pos 1) (element_at g n)
place_of o [] n = refl
place_of o (y ∷ g) (pos zero) = refl
place_of o (y ∷ g) (pos (suc zero)) = refl
place_of o (y ∷ g) (pos (suc (suc n))) = place_of o g (pos (suc n))
place_of o (y ∷ g) (negsuc n) = refl

pub followed : (o : ℤ) (xs : List ℤ) (p x : ℤ) → Some x ≡ element_at xs p
    → Some ((x -ℤ o) +ℤ pos 1) ≡ element_at (as_places o xs) p
followed o xs p x at = ap (option_map (λ y. (y -ℤ o) +ℤ pos 1)) at ∙ sym (place_of o xs p)

pub not_followed : (o : ℤ) (xs : List ℤ) (p : ℤ) → None ≡ element_at xs p
    → None ≡ element_at (as_places o xs) p
not_followed o xs p at = ap (option_map (λ y. (y -ℤ o) +ℤ pos 1)) at ∙ sym (place_of o xs p)

-- one step more
pub went_on : (f : List ℤ) (n m : ℕ) (p q r : ℤ) → m ≡ n + 1 → end_of_tour f n p ≡ Some q
    → element_at f q ≡ Some r → end_of_tour f m p ≡ Some r
went_on f n m p q r more so_far leads =
    let one : m ≡ suc n = omega arith in
    ap (λ k. end_of_tour f k p) one ∙ one_further f n p q r so_far leads

-- ---- tasks and boxes

stretched : (xs ys : List ℤ) (i : ℕ) (s : Stretch) → IsStretch xs ys i s
    → slice_get (zip xs ys) i ≡ Some (span s)
stretched xs ys i s h = zipped xs ys i s.start s.length h.start h.length

pub overlap : (xs ys : List ℤ) (o : Overlap) → IsOverlap xs ys o → (p : Span → Span → Bool)
    → p (span o.first) (span o.second) ≡ false → all_pairs p (zip xs ys) ≡ false
overlap xs ys o h p e =
    pair_fails p (zip xs ys) o.one o.other (span o.first) (span o.second) h.order
    (stretched xs ys o.one o.first h.first) (stretched xs ys o.other o.second h.second) e

module _ (x y width height : List ℤ) (t : Boxes) (h : AreBoxes x y width height t) where
  one_box : slice_get (boxes x y width height) t.across.one ≡ Some (span t.across.first, span t.along.first)
  one_box =
      zipped (zip x width) (zip y height) t.across.one (span t.across.first) (span t.along.first) (stretched x width t.across.one t.across.first h.across.first)
      (subst (λ k. slice_get (zip y height) k ≡ Some (span t.along.first)) (sym h.one) (stretched y height t.along.one t.along.first h.along.first))

  other_box : slice_get (boxes x y width height) t.across.other ≡ Some (span t.across.second, span t.along.second)
  other_box =
      zipped (zip x width) (zip y height) t.across.other (span t.across.second) (span t.along.second) (stretched x width t.across.other t.across.second h.across.second)
      (subst (λ k. slice_get (zip y height) k ≡ Some (span t.along.second)) (sym h.other) (stretched y height t.along.other t.along.second h.along.second))

  pub overlapping : (p : Span × Span → Span × Span → Bool)
      → p (span t.across.first, span t.along.first) (span t.across.second, span t.along.second) ≡ false
      → all_pairs p (boxes x y width height) ≡ false
  overlapping p e =
      pair_fails p (boxes x y width height) t.across.one t.across.other (span t.across.first, span t.along.first) (span t.across.second, span t.along.second)
      h.across.order one_box other_box e

pub too_much : (used most : ℤ) (s : Sides) → used ≡ s.left → s.right ≡ most → IsMore s → int_le used most ≡ false
too_much used most s e f h =
    (λ i. int_le (e i) (sym f i)) ∙ ap (λ r. relates r s.left s.right) (sym h.asked) ∙ h.unlike

pub overloaded : (xs ys zs : List ℤ) (most : ℤ) (l : Load) → IsLoad xs ys zs most l
    → list_all (λ k. (k.0.1 =ℤ pos 0) || (k.1 =ℤ pos 0) || int_le (used_at k.0.0 (zip (zip xs ys) zs)) most) (zip (zip xs ys) zs) ≡ false
overloaded xs ys zs most l h =
    let tasks = zip (zip xs ys) zs in
    let used : used_at h.stretch.start tasks ≡ l.sides.left = ap (λ t. used_at t tasks) h.time ∙ h.together in
    one_fails (λ k. (k.0.1 =ℤ pos 0) || (k.1 =ℤ pos 0) || int_le (used_at k.0.0 tasks) most) tasks l.task (span h.stretch, h.use')
    (zipped (zip xs ys) zs l.task (span h.stretch) h.use' (stretched xs ys l.task h.stretch h.task) h.need)
    (λ i. h.lasts i || h.needs i || too_much (used_at h.stretch.start tasks) most l.sides used h.limit h.more i)

-- ---- indices

from_one : (o x : ℤ) → int_le (pos 1) ((x -ℤ o) +ℤ pos 1) ≡ int_le o x
from_one o x = grind (arith, ints)

to_last : (o : ℤ) (n : ℕ) (x : ℤ) → int_le ((x -ℤ o) +ℤ pos 1) (pos n)
    ≡ int_le x ((o +ℤ pos n) -ℤ pos 1)
to_last o n x = grind (arith, ints)

pub lies_outside : (xs : List ℤ) (first : ℤ) (n : ℕ) (o : NoIndex) → IsNoIndex xs first n o
    → lies_between first ((first +ℤ pos n) -ℤ pos 1) o.value ≡ false
lies_outside xs first n o says = ap₂ (λ low high. lies_between low high o.value) says.low says.high ∙ says.outside

-- an index that is none
pub no_places : (first : ℤ) (xs : List ℤ) (o : NoIndex) → IsNoIndex xs first (length xs) o
    → are_places (length (as_places first xs)) (as_places first xs) ≡ false
no_places first xs o says =
    ap (λ n. are_places n (as_places first xs)) (placed_counted first xs)
    ∙ one_fails (lies_between (pos 1) (pos (length xs))) (as_places first xs) o.place ((o.value -ℤ first) +ℤ pos 1) (placed_at first xs o.place o.value says.value)
    (ap₂ ◌&&◌ (from_one first o.value) (to_last first (length xs) o.value) ∙ lies_outside _ _ _ o says)

-- ---- runs of neighbours, knapsacks and bins

module _ (low high : ℤ) (k : ℕ) (some : 0 < k) where
  run_fails : (xs : List ℤ) (n : ℕ) (s : ℤ) → n + k ≤ length xs → total (take k (drop n xs)) ≡ s
      → lies_between low high s ≡ false
      → list_all (λ w. lies_between low high (total w)) (windows k xs) ≡ false
  run_fails xs zero s fits is outside =
      let test = λ (w : List ℤ). lies_between low high (total w) in
      ap (list_all test) (one_window k xs 0 some fits) ∙ ap (λ b. b && list_all test (windows k (drop 1 xs))) (ap (lies_between low high) is ∙ outside)
  run_fails [] (suc n) s fits is outside = absurd (omega arith)
  run_fails (x ∷ xs) (suc n) s fits is outside =
      let test = λ (w : List ℤ). lies_between low high (total w) in
      ap (list_all test) (one_window k (x ∷ xs) 0 some (omega arith))
      ∙ ap (λ b. test (take k (x ∷ xs)) && b) (run_fails xs n s (omega arith) is outside)
      ∙ and-false (test (take k (x ∷ xs)))

pub other_total : (t : Total) (sum wanted : ℤ) → sum ≡ t.total → wanted ≡ t.wanted
    → (t.total =ℤ t.wanted) ≡ false → (sum =ℤ wanted) ≡ false
other_total t sum wanted is that other = ap₂ ◌=ℤ◌ is that ∙ other

-- there is an element only at one of the indices
pub none_outside : (ss : List NumberSet) (n : ℤ) (o : NoIndex) → IsNoIndex (n ∷ []) (pos 1) (length ss) o
    → element_at ss n ≡ None
none_outside ss n o says =
    no_element ss n (λ k is. past (length ss) k n is (ap (lies_between (pos 1) ((pos 1 +ℤ pos (length ss)) -ℤ pos 1)) (alone_is o.place n o.value says.value) ∙ lies_outside _ _ _ o says))
  where
    past : (m k : ℕ) (n : ℤ) → n ≡ pos (suc k)
        → lies_between (pos 1) ((pos 1 +ℤ pos m) -ℤ pos 1) n ≡ false → m ≤ k
    past m k n is e = grind (arith, ints)

pub other_load : (bins weights loads : List ℤ) (first : ℤ) (l : BinLoad)
    → HasOtherLoad bins weights loads first l → loads_are first bins weights loads ≡ false
other_load bins weights loads first l says =
    indexed_fails (λ n y. y =ℤ load_of bins weights n) (λ n ys. loads_are n bins weights ys) (λ n y ys. refl) first loads l.place l.wanted says.wanted
    (ap (λ n. l.wanted =ℤ load_of bins weights n) says.bin ∙ ap (λ z. l.wanted =ℤ z) says.load ∙ says.other)

pub other_run : (low high k : ℤ) (xs : List ℤ) (r : Run) → IsOtherRun low high k xs r
    → slides_between low high k xs ≡ false
other_run low high k xs r says =
    ap (λ n. slides_between low high n xs) says.count
    ∙ ap (λ b. is_natural (pos r.count) && b) (run_fails low high r.count says.some xs r.place r.sum says.within says.is says.outside)
    ∙ and-false (is_natural (pos r.count))

-- ---- numbers below 0

some_task : {A : Type 0} (ts : List A) (i : ℕ) (t : A) → slice_get ts i ≡ Some t
    → nat_eq (length ts) 0 ≡ false
some_task [] i t at = absurd (none-some t at)
some_task (u ∷ ts) i t at = grind (arith, nat_tests)

-- a row of tasks, of which one lasts less than nothing
lasts_less : (xs ys : List ℤ) (i : ℕ) (v : ℤ) → i < length xs → slice_get ys i ≡ Some v
    → is_natural v ≡ false → last_naturally (zip xs ys) ≡ false
lasts_less xs ys i v task at below =
    let start = there_is xs i task in
    one_fails (λ k. is_natural k.1) (zip xs ys) i (start.0, v) (zipped xs ys i start.0 v start.1 at) below

cumulative_fails : (q : Quantity) (K : Partial) (xs : List Argument) (i : ℕ) (v : ℤ)
    → slice_get (naturals builtin.FznCumulative q K xs) i ≡ Some v → IsTask builtin.FznCumulative K xs i
    → is_natural v ≡ false → is_cumulative (zip (zip (ints_at K xs 0) (ints_at K xs 1)) (ints_at K xs 2)) (int_at K xs 3) ≡ false
cumulative_fails q K xs i v at task below = by q at
  where
    start : (x : ℤ) × (slice_get (ints_at K xs 0) i ≡ Some x)
    start = there_is (ints_at K xs 0) i task.0

    lasts : (x : ℤ) × (slice_get (ints_at K xs 1) i ≡ Some x)
    lasts = there_is (ints_at K xs 1) i task.1

    uses : (x : ℤ) × (slice_get (ints_at K xs 2) i ≡ Some x)
    uses = there_is (ints_at K xs 2) i task.2

    tasks : List (Span × ℤ)
    tasks = zip (zip (ints_at K xs 0) (ints_at K xs 1)) (ints_at K xs 2)

    at_task : (d u : ℤ) → slice_get (ints_at K xs 1) i ≡ Some d → slice_get (ints_at K xs 2) i ≡ Some u
        → slice_get tasks i ≡ Some ((start.0, d), u)
    at_task d u e f = zipped (zip (ints_at K xs 0) (ints_at K xs 1)) (ints_at K xs 2) i (start.0, d) u (zipped (ints_at K xs 0) (ints_at K xs 1) i start.0 d start.1 e) f

    by : (q : Quantity) → slice_get (naturals builtin.FznCumulative q K xs) i ≡ Some v → is_cumulative tasks (int_at K xs 3) ≡ false
    by of.Duration at = and_left _ _ (and_left _ _ (one_fails (λ k. is_natural k.0.1 && is_natural k.1) tasks i ((start.0, v), uses.0) (at_task v uses.0 at uses.1) (and_left _ _ below)))
    by of.Use at = and_left _ _ (and_left _ _ (one_fails (λ k. is_natural k.0.1 && is_natural k.1) tasks i ((start.0, lasts.0), v) (at_task lasts.0 v lasts.1 at) (and_right (is_natural lasts.0) _ below)))
    by of.Limit at = and_left _ _ (and_right (list_all (λ k. is_natural k.0.1 && is_natural k.1) tasks) _ ((λ j. some_task tasks i ((start.0, lasts.0), uses.0) (at_task lasts.0 uses.0 lasts.1 uses.1) j || is_natural (alone_is i (int_at K xs 3) v at j)) ∙ below))
    by q at = absurd (none-some v at)

knapsack_fails : (q : Quantity) (K : Partial) (xs : List Argument) (i : ℕ) (v : ℤ)
    → slice_get (naturals builtin.FznKnapsack q K xs) i ≡ Some v → is_natural v ≡ false
    → is_knapsack (ints_at K xs 0) (ints_at K xs 1) (ints_at K xs 2) (int_at K xs 3) (int_at K xs 4) ≡ false
knapsack_fails of.Number K xs i v at below =
    and_left _ _ (and_left _ _ (and_left _ _ (and_left _ _ (one_fails is_natural (ints_at K xs 2) i v at below))))
knapsack_fails of.Weight K xs i v at below =
    and_left _ _ (and_left _ _ (and_left _ _ (and_right (list_all is_natural (ints_at K xs 2)) _ (ap is_natural (alone_is i (int_at K xs 3) v at) ∙ below))))
knapsack_fails of.Profit K xs i v at below =
    and_left _ _ (and_left _ _ (and_right (list_all is_natural (ints_at K xs 2) && is_natural (int_at K xs 3)) _ (ap is_natural (alone_is i (int_at K xs 4) v at) ∙ below)))
knapsack_fails q K xs i v at below = absurd (none-some v at)

below_fails : (b : Builtin) (q : Quantity) (K : Partial) (xs : List Argument) (i : ℕ) (v : ℤ)
    → slice_get (naturals b q K xs) i ≡ Some v → IsTask b K xs i → is_natural v ≡ false → AddsUp b K xs
    → row_outcome (row_at b) K xs ≡ Truth false
unfolding row_outcome row_at
below_fails builtin.FznDisjunctive of.Duration K xs i v at task below added =
    ap Truth (and_left _ (all_pairs (λ a b. is_empty_span a || is_empty_span b || are_apart a b) (zip (ints_at K xs 0) (ints_at K xs 1))) (lasts_less (ints_at K xs 0) (ints_at K xs 1) i v task at below))
below_fails builtin.FznDisjunctiveStrict of.Duration K xs i v at task below added =
    ap Truth (and_left _ (all_pairs are_apart (zip (ints_at K xs 0) (ints_at K xs 1))) (lasts_less (ints_at K xs 0) (ints_at K xs 1) i v task at below))
below_fails builtin.FznCumulative q K xs i v at task below added = ap Truth (cumulative_fails q K xs i v at task below)
below_fails builtin.FznKnapsack q K xs i v at task below added =
    ap (λ l. sum_outcome l (is_knapsack (ints_at K xs 0) (ints_at K xs 1) (ints_at K xs 2) (int_at K xs 3) (int_at K xs 4))) added
    ∙ ap Truth (knapsack_fails q K xs i v at below)
below_fails builtin.FznSlidingSum of.Width K xs i v at task below added =
    ap Truth (and_left _ (list_all (λ w. lies_between (int_at K xs 0) (int_at K xs 1) (total w)) (windows (unsigned_abs (int_at K xs 2)) (ints_at K xs 3)))
    (ap is_natural (alone_is i (int_at K xs 2) v at) ∙ below))
below_fails builtin.GecodeAmongSeqInt of.Width K xs i v at task below added =
    ap Truth (and_left _ (list_all (λ w. lies_between (int_at K xs 3) (int_at K xs 4) (total w)) (windows (unsigned_abs (int_at K xs 2)) (marks (set_at K xs 1) (ints_at K xs 0))))
    (ap is_natural (alone_is i (int_at K xs 2) v at) ∙ below))
below_fails b q K xs i v at task below added = absurd (none-some v at)

pub negative_fails : (b : Builtin) (K : Partial) (xs : List Argument) (n : Negative) → IsNegative b K xs n
    → row_outcome (row_at b) K xs ≡ Truth false
negative_fails b K xs n h = below_fails b n.quantity K xs n.place n.value h.there h.task h.below h.added

-- ---- automata

module _ (states symbols : ℤ) (d : List ℤ) (last : NumberSet) where
  abbrev is_end : Option ℤ → Bool
  is_end o = option_map_or (λ q. lies_between (pos 1) states q && sets.contains last q) o false

  -- from what is no state no word leads to a state
  pub from_no_state : (xs : List ℤ) (q : ℤ) → lies_between (pos 1) states q ≡ false
      → is_word xs states symbols d q last ≡ false
  from_no_state [] q none = ap (λ b. b && sets.contains last q) none
  from_no_state (x ∷ xs) q none =
      ap (λ b. is_end (option_and_then (λ p. run states symbols d p xs) (if b && lies_between (pos 1) symbols x then element_at d (((q -ℤ pos 1) *ℤ symbols) +ℤ x) else None))) none

  -- nor where a symbol leads to what is none
  pub no_word : (xs : List ℤ) (i : ℕ) (first q x : ℤ)
      → run states symbols d first (take i xs) ≡ Some q → slice_get xs i ≡ Some x
      → has_step states symbols d q x ≡ false → is_word xs states symbols d first last ≡ false
  no_word [] i first q x reached at none = absurd (none-some x at)
  no_word (y ∷ xs) zero first q x reached at none =
      ap (λ p. is_end (option_and_then (λ r. run states symbols d r xs) (step states symbols d p y))) (same_Some first q reached)
      ∙ ap (λ z. is_end (option_and_then (λ r. run states symbols d r xs) (step states symbols d q z))) (same_Some y x at)
      ∙ (elim (step states symbols d q x) as (λ o. option_map_or (lies_between (pos 1) states) o false ≡ false → is_end (option_and_then (λ r. run states symbols d r xs) o) ≡ false) [
        | None ↦ λ e. refl
        | Some p ↦ λ e. from_no_state xs p e
      ] none)
  no_word (y ∷ xs) (suc i) first q x reached at none =
      elim (step states symbols d first y) as (λ o. option_and_then (λ r. run states symbols d r (take i xs)) o ≡ Some q → is_end (option_and_then (λ r. run states symbols d r xs) o) ≡ false) [
        | None ↦ λ e. refl
        | Some p ↦ λ e. no_word xs i p q x e at none
      ] reached

-- ---- lexicographic order

never_below : (x : ℤ) → int_lt x x ≡ false
never_below x = grind (arith, ints)

-- lists whose first elements are the same compare as what is left of them
same_fronts : (x : ℤ) (xs ys : List ℤ)
    → is_before int_lt ◌=ℤ◌ (x ∷ xs) (x ∷ ys) ≡ is_before int_lt ◌=ℤ◌ xs ys
same_fronts x xs ys =
    ap (λ b. b || ((x =ℤ x) && is_before int_lt ◌=ℤ◌ xs ys)) (never_below x) ∙ ap (λ b. b && is_before int_lt ◌=ℤ◌ xs ys) (int_itself x)

-- the order is that of what comes where they first differ, if something does
decides : (xs ys : List ℤ) (k : ℕ) (o p : Option ℤ)
    → ((j : ℕ) → j < k → slice_get xs j ≡ slice_get ys j) → slice_get xs k ≡ o
    → slice_get ys k ≡ p → (o ≡ p → o ≡ None) → is_before int_lt ◌=ℤ◌ xs ys ≡ comes_before o p
decides [] [] k o p same left right apart = λ i. comes_before (left i) (right i)
decides [] (y ∷ ys) zero o p same left right apart = λ i. comes_before (left i) (right i)
decides (x ∷ xs) [] zero o p same left right apart = λ i. comes_before (left i) (right i)
decides (x ∷ xs) (y ∷ ys) zero o p same left right apart =
    let other : (x =ℤ y) ≡ false = false_from_ne_true _ (λ e. none-some x (sym (apart (sym left ∙ ap Some (same_int x y e) ∙ right)) ∙ sym left)) in
    ap (λ b. int_lt x y || (b && is_before int_lt ◌=ℤ◌ xs ys)) other ∙ or-false (int_lt x y)
    ∙ (λ i. comes_before (left i) (right i))
decides [] (y ∷ ys) (suc k) o p same left right apart = absurd (none-some y (same 0 (omega arith)))
decides (x ∷ xs) [] (suc k) o p same left right apart = absurd (none-some x (sym (same 0 (omega arith))))
decides (x ∷ xs) (y ∷ ys) (suc k) o p same left right apart =
    ap (λ z. is_before int_lt ◌=ℤ◌ (x ∷ xs) (z ∷ ys)) (sym (same_Some x y (same 0 (omega arith))))
    ∙ same_fronts x xs ys ∙ decides xs ys k o p (λ j h. same (suc j) (omega arith)) left right apart

apart : (o p : Option ℤ) → agree o p ≡ false → o ≡ p → o ≡ None
apart None p a e = refl
apart (Some x) None a e = e
apart (Some x) (Some y) a e = absurd (true≢false (sym (int_itself y) ∙ ap (λ z. z =ℤ y) (sym (same_Some x y e)) ∙ a))

before_apart : (o p : Option ℤ) → comes_before o p ≡ true → o ≡ p → o ≡ None
before_apart None p b e = refl
before_apart (Some x) None b e = e
before_apart (Some x) (Some y) b e = absurd (true≢false (sym b ∙ ap (λ z. int_lt z y) (same_Some x y e) ∙ never_below y))

pub first_before : (xs ys : List ℤ) (d : Difference) → IsDifference xs ys d → agree d.left d.right ≡ false
    → is_before int_lt ◌=ℤ◌ xs ys ≡ comes_before d.left d.right
first_before xs ys d h e =
    decides xs ys d.place d.left d.right h.same h.left h.right (apart d.left d.right e)

pub second_before : (xs ys : List ℤ) (d : Difference) → IsDifference xs ys d
    → comes_before d.right d.left ≡ true → is_before int_lt ◌=ℤ◌ ys xs ≡ true
second_before xs ys d h e =
    decides ys xs d.place d.right d.left (λ j l. sym (h.same j l)) h.right h.left (before_apart d.right d.left e) ∙ e

-- lists differ where one has another number than the other, or ends first
pub other_lists : (xs ys : List ℤ) (k : ℕ) (o p : Option ℤ) → slice_get xs k ≡ o → slice_get ys k ≡ p
    → differ o p ≡ true → is_same_list ◌=ℤ◌ xs ys ≡ false
other_lists [] [] k o p left right e = absurd (true≢false (sym e ∙ (λ i. differ (sym left i) (sym right i))))
other_lists [] (y ∷ ys) k o p left right e = refl
other_lists (x ∷ xs) [] k o p left right e = refl
other_lists (x ∷ xs) (y ∷ ys) zero o p left right e =
    ap (λ b. b && is_same_list ◌=ℤ◌ xs ys) (not-true (x =ℤ y) ((λ i. differ (left i) (right i)) ∙ e))
other_lists (x ∷ xs) (y ∷ ys) (suc k) o p left right e =
    ap (λ b. (x =ℤ y) && b) (other_lists xs ys k o p left right e) ∙ and-false (x =ℤ y)

pub early : (xs : List ℤ) (e : Early) → IsEarly xs e → precedes e.before e.value xs ≡ false
early xs e h = comes_too_early e.before e.value xs e.place (λ j l x at. false_from_ne_true _ (λ is. h.none j l (at ∙ ap Some (same_int x e.before is)))) h.there

-- an element is greater by more than one than the greatest so far, and the number just below it
-- doesn't come before it
pub rises_too_fast : (v : ℤ) (xs : List ℤ) (i : ℕ) (most : ℤ) → int_lt (most +ℤ pos 1) v ≡ true
    → slice_get xs i ≡ Some v → ((k : ℕ) → k < i → slice_get xs k ≡ Some (v -ℤ pos 1) → ⊥)
    → rises_by_one most xs ≡ false
rises_too_fast v [] i most far at none = absurd (none-some v at)
rises_too_fast v (x ∷ xs) zero most far at none =
    ap (λ b. b && rises_by_one (int_max most x) xs) (ap (λ y. int_le y (most +ℤ pos 1)) (same_Some x v at) ∙ too_far v most far)
  where
    too_far : (v most : ℤ) → int_lt (most +ℤ pos 1) v ≡ true → int_le v (most +ℤ pos 1) ≡ false
    too_far v most far = grind (arith, ints)
rises_too_fast v (x ∷ xs) (suc i) most far at none =
    by (int_le x (most +ℤ pos 1)) refl (λ more. rises_too_fast v xs i (int_max most x) more at (λ k h. none (suc k) (omega arith)))
  where
    still_far : (v x most : ℤ) → int_lt (most +ℤ pos 1) v ≡ true → int_le x (most +ℤ pos 1) ≡ true
        → (x ≡ v -ℤ pos 1 → ⊥) → int_lt (int_max most x +ℤ pos 1) v ≡ true
    still_far v x most far low other = grind (arith, ints)

    by : (b : Bool) → int_le x (most +ℤ pos 1) ≡ b
        → (int_lt (int_max most x +ℤ pos 1) v ≡ true → rises_by_one (int_max most x) xs ≡ false)
        → (b && rises_by_one (int_max most x) xs) ≡ false
    by true low rest =
        rest (still_far v x most far low (λ e. none 0 (omega arith) (ap Some e)))
    by false low rest = refl

-- ---- lists that lead back

mapped_or : (f : ℤ → ℤ) (p : ℤ → Bool) (o : Option ℤ) → option_map_or p (option_map f o) false ≡ option_map_or (λ y. p (f y)) o false
mapped_or f p None = refl
mapped_or f p (Some y) = refl

pub one_way : (f : List ℤ) (fo : ℤ) (g : List ℤ) (go : ℤ) (w : OneWay) → IsOneWay f fo g go w
    → leads_back (pos 1) (as_places fo f) (as_places go g) ≡ false
one_way f fo g go w h =
    let x = (w.value -ℤ fo) +ℤ pos 1 in
    let here : (pos 1 +ℤ pos w.place) ≡ pos (suc w.place) = omega (arith, ints) in
    indexed_fails (λ p y. option_map_or (λ z. z =ℤ p) (element_at (as_places go g) y) false) (λ p ys. leads_back p ys (as_places go g)) (λ p y ys. refl)
    (pos 1) (as_places fo f) w.place x (placed_at fo f w.place w.value h.there)
    (ap (λ o. option_map_or (λ y. y =ℤ (pos 1 +ℤ pos w.place)) o false) (place_of go g x ∙ ap (option_map (λ y. (y -ℤ go) +ℤ pos 1)) h.back)
    ∙ mapped_or (λ y. (y -ℤ go) +ℤ pos 1) (λ y. y =ℤ (pos 1 +ℤ pos w.place)) w.back
    ∙ ap (λ n. option_map_or (λ y. ((y -ℤ go) +ℤ pos 1) =ℤ n) w.back false) here ∙ h.other)
