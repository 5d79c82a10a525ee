-- A circuit leads through each position once: no two positions have the same successor, and no ring
-- is shorter.
use Rattle.std.proofs.Common.{◌≡◌, ℕ, zero, suc, ◌+◌, ◌-◌, ◌<◌, ◌≤◌, ℤ, pos, ◌+ℤ◌, Bool, true, false, not, ◌&&◌, ◌||◌, List, [], ◌∷◌, inl, inr, int_le, int_lt, length, Option, None, Some, option_and_then, slice_get, refl, sym, ap, subst, ◌∙◌, add-one, arith}
use Rattle.std.specs.List.{list_all}
use Rattle.std.specs.Option.{option_map_or}
use Rattle.std.proofs.lemmas.Bool.{cases_lt, false_from_ne_true, not_from_false, or_left, or_right, true≢false}
use Rattle.std.proofs.lemmas.Int.{ints}
use Rattle.std.proofs.lemmas.Option.{none-some, same_Some, slice_get_within}
use Rattle.fz_model.specs.Relations.{◌=ℤ◌, all_different, are_places, element_at, end_of_tour, is_among, is_circuit, is_subcircuit, tour}
use Rattle.fz_model.proofs.Values.{and_both, and_first, and_second, int_itself, no, same_int}
use Rattle.fz_model.proofs.of_builtins.of_kernel.Passed.{element_found}
use Rattle.fz_model.proofs.of_builtins.of_globals.Led.{element_place}
use Rattle.fz_model.proofs.of_builtins.of_globals.Walked.{back_early, is_on_tour, on_the_way, one_further, walked_on, where_on_tour}
use Rattle.fz_bounds.proofs.Distinct.{is_one, no_more, numbers_from, so_many}

-- ---- lists

pub each_passes : (g : ℤ → Bool) (ys : List ℤ) → ((y : ℤ) → is_among y ys ≡ true → g y ≡ true)
    → list_all g ys ≡ true
each_passes g [] f = refl
each_passes g (y ∷ ys) f =
    and_both (g y) _ (f y (or_left (y =ℤ y) _ (int_itself y))) (each_passes g ys (λ z h. f z (or_right (y =ℤ z) _ h)))

where_listed : (a : ℤ) (xs : List ℤ) → is_among a xs ≡ true
    → (i : ℕ) × (slice_get xs i ≡ Some a)
where_listed a [] h = no h
where_listed a (x ∷ xs) h =
    (elim (x =ℤ a) as (λ b. (x =ℤ a) ≡ b → (b || is_among a xs) ≡ true → (i : ℕ) × (slice_get (x ∷ xs) i ≡ Some a)) [
      | true ↦ λ e _. (0, ap Some (same_int x a e))
      | false ↦ λ _ h. let (i, at) = where_listed a xs h in (suc i, at)
    ]) refl h

-- where no two elements are equal, all differ
differ_if : (xs : List ℤ) → ((i j : ℕ) (v : ℤ) → i < j → slice_get xs i ≡ Some v
    → slice_get xs j ≡ Some v → ⊥) → all_different xs ≡ true
differ_if [] f = refl
differ_if (x ∷ xs) f =
    and_both (not (is_among x xs)) _
    (not_from_false _ (false_from_ne_true _ (λ h. let (j, at) = where_listed x xs h in f 0 (suc j) x (omega arith) refl at)))
    (differ_if xs (λ i j v less at also. f (suc i) (suc j) v (omega arith) at also))

-- ---- ways of so many steps

module _ (f : List ℤ) where
  so_long : (k : ℕ) (p q : ℤ) → end_of_tour f k p ≡ Some q → length (tour f k p) ≡ k
  so_long zero p q e = refl
  so_long (suc k) p q e =
      elim (element_at f p) as (λ o. option_and_then (end_of_tour f k) o ≡ Some q → suc (length (option_map_or (tour f k) o [])) ≡ suc k) [
        | None ↦ λ e. absurd (none-some q e)
        | Some s ↦ λ e. ap suc (so_long k s q e)
      ] e

  one_step : (p q : ℤ) → end_of_tour f 1 p ≡ Some q → element_at f p ≡ Some q
  one_step p q e = elim (element_at f p) as (λ o. option_and_then (end_of_tour f 0) o ≡ Some q → o ≡ Some q) [ None ↦ λ e. e | Some s ↦ λ e. e ] e

  module _ (circuit : is_circuit f ≡ true) where
    abbrev n : ℕ
    n = length f

    abbrev whole : List ℤ
    whole = tour f n (pos 1)

    abbrev ends : Bool
    ends = option_map_or (λ p. p =ℤ pos 1) (end_of_tour f n (pos 1)) false

    apart : all_different whole ≡ true
    apart = and_second (are_places n f) _ (and_first (are_places n f && all_different whole) ends circuit)

    back : end_of_tour f n (pos 1) ≡ Some (pos 1)
    back = ended (end_of_tour f n (pos 1)) (and_second (are_places n f && all_different whole) ends circuit)
      where
        ended : (o : Option ℤ) → option_map_or (λ p. p =ℤ pos 1) o false ≡ true → o ≡ Some (pos 1)
        ended None e = no e
        ended (Some p) e = ap Some (same_int p (pos 1) e)

    -- no way from the first position comes back to it before
    never_back : (k : ℕ) → 0 < k → k < n → end_of_tour f k (pos 1) ≡ Some (pos 1) → ⊥
    never_back k some fewer e = true≢false (sym apart ∙ back_early f n k (pos 1) some fewer e)

    -- each position on the way is one of the list
    on_way : (y : ℤ) → is_among y whole ≡ true → is_among y (numbers_from (pos 1) n) ≡ true
    on_way y h =
        let (j, fewer, there) = where_on_tour f n y (pos 1) h in
        let (q, to, from) = on_the_way f j (n - j) n (pos 1) (pos 1) (omega arith) back in
        let (r, one, _) = on_the_way f 1 ((n - j) - 1) (n - j) q (pos 1) (omega arith) from in
        let same : q ≡ y = same_Some q y (sym to ∙ there) in
        let (k, is, at) = element_place f q r (one_step q r one) in
        let inside : k < n = slice_get_within f k r at in
        let is_y : y ≡ pos (suc k) = sym same ∙ is in
        is_one (pos 1) y n (above y k is_y) (below y k is_y inside)
      where
        above : (y : ℤ) (k : ℕ) → y ≡ pos (suc k) → int_le (pos 1) y ≡ true
        above y k e = grind (arith, ints)

        below : (y : ℤ) (k : ℕ) → y ≡ pos (suc k) → k < n → int_lt y (pos 1 +ℤ pos n) ≡ true
        below y k e h = grind (arith, ints)

    -- and the way leads to each position
    comes_by : (p : ℕ) → p < n → (k : ℕ) × (k < n) × (end_of_tour f k (pos 1) ≡ Some (pos (suc p)))
    comes_by p inside = where_on_tour f n (pos (suc p)) (pos 1) (listed (is_among (pos (suc p)) whole) refl)
      where
        listed : (b : Bool) → is_among (pos (suc p)) whole ≡ b → is_among (pos (suc p)) whole ≡ true
        listed true e = e
        listed false e =
            let more : all_different (pos (suc p) ∷ whole) ≡ true = and_both (not (is_among (pos (suc p)) whole)) _ (not_from_false _ e) apart in
            let each : list_all (λ y. is_among y (numbers_from (pos 1) n)) (pos (suc p) ∷ whole) ≡ true =
            and_both (is_among (pos (suc p)) (numbers_from (pos 1) n)) _ (is_one (pos 1) (pos (suc p)) n (grind (arith, ints)) (grind (arith, ints))) (each_passes (λ y. is_among y (numbers_from (pos 1) n)) whole on_way) in
            let too_many = no_more (pos (suc p) ∷ whole) (numbers_from (pos 1) n) more each in
            let long : length whole ≡ n = so_long n (pos 1) (pos 1) back in
            let few : length (numbers_from (pos 1) n) ≡ n = so_many (pos 1) n in
            absurd (omega arith)

    -- from a position on the way back to the first
    leads_home : (k : ℕ) (p : ℤ) → k ≤ n → end_of_tour f k (pos 1) ≡ Some p
        → end_of_tour f (n - k) p ≡ Some (pos 1)
    leads_home k p fewer there = sym (walked_on f k (n - k) n (pos 1) p (omega arith) there) ∙ back

    pub no_short_ring : (p s : ℕ) → p < n → 0 < s → s < n
        → end_of_tour f s (pos (suc p)) ≡ Some (pos (suc p)) → ⊥
    no_short_ring p s inside some fewer ring =
        let (k, early, there) = comes_by p inside in
        let here = pos (suc p) in
        let home = leads_home k here (omega arith) there in
        let round : end_of_tour f (s + (n - k)) here ≡ Some (pos 1) = walked_on f s (n - k) (s + (n - k)) here here refl ring ∙ home in
        let again : end_of_tour f s (pos 1) ≡ Some (pos 1) = sym (walked_on f (n - k) s (s + (n - k)) here (pos 1) (omega arith) home) ∙ round in
        never_back s some fewer again

    -- two ways of different lengths to one position
    meet : (a b : ℕ) (v : ℤ) → a < b → b ≤ n → 0 < a → end_of_tour f a (pos 1) ≡ Some v
        → end_of_tour f b (pos 1) ≡ Some v → ⊥
    meet a b v less fewer some one other =
        let long = leads_home a v (omega arith) one in
        let short = leads_home b v fewer other in
        never_back (b - a) (omega arith) (omega arith) (sym (walked_on f (n - b) (b - a) (n - a) v (pos 1) (omega arith) short) ∙ long)

    entered_once : (i j : ℕ) (v : ℤ) → i < j → slice_get f i ≡ Some v → slice_get f j ≡ Some v → ⊥
    entered_once i j v less at also =
        let inside_j : j < n = slice_get_within f j v also in
        let (a, early_a, there_a) = comes_by i (omega arith) in
        let (b, early_b, there_b) = comes_by j inside_j in
        let next_a = one_further f a (pos 1) (pos (suc i)) v there_a (element_found f (pos (suc i)) i v (ap pos (sym (add-one i))) at) in
        let next_b = one_further f b (pos 1) (pos (suc j)) v there_b (element_found f (pos (suc j)) j v (ap pos (sym (add-one j))) also) in
        elim (cases_lt a b) [
          | inl before ↦ meet (suc a) (suc b) v (omega arith) (omega arith) (omega arith) next_a next_b
          | inr after ↦ elim (cases_lt b a) [
            | inl before ↦ meet (suc b) (suc a) v (omega arith) (omega arith) (omega arith) next_b next_a
            | inr behind ↦
                let same : a ≡ b = omega arith in
                let one : pos (suc i) ≡ pos (suc j) = same_Some (pos (suc i)) (pos (suc j)) (sym there_a ∙ ap (λ k. end_of_tour f k (pos 1)) same ∙ there_b) in
                absurd (omega (arith, ints))
          ]
        ]

-- ---- what fails

pub short_ring : (f : List ℤ) (p s : ℕ) → p < length f → 0 < s → s < length f
    → end_of_tour f s (pos (p + 1)) ≡ Some (pos (p + 1)) → is_circuit f ≡ false
short_ring f p s inside some fewer ring =
    false_from_ne_true _ (λ circuit. no_short_ring f circuit p s inside some fewer (subst (λ k. end_of_tour f s (pos k) ≡ Some (pos k)) (add-one p) ring))

pub entered_twice : (f : List ℤ) → all_different f ≡ false → is_circuit f ≡ false
entered_twice f e =
    false_from_ne_true _ (λ circuit. true≢false (sym (differ_if f (entered_once f circuit)) ∙ e))

pub led_outside : (f : List ℤ) → are_places (length f) f ≡ false → is_circuit f ≡ false
led_outside f e =
    let apart = all_different (tour f (length f) (pos 1)) in
    let ends = option_map_or (λ p. p =ℤ pos 1) (end_of_tour f (length f) (pos 1)) false in
    ap (λ b. (b && apart) && ends) e
