-- Where the successors in a list lead, step by step, and whether the positions on the way are
-- different.
use Rattle.std.proofs.Common.{◌≡◌, ℕ, suc, zero, ◌+◌, ◌-◌, ◌<◌, ℤ, pos, true, false, not, ◌&&◌, ◌||◌, List, [], ◌∷◌, drop, length, nat_eq, if◌then◌else◌, Some, None, option_and_then, slice_get, refl, sym, ap, subst, ◌∙◌, arith, rules}
use Rattle.std.specs.Option.{option_map_or}
use Rattle.std.proofs.lemmas.Int.{ints}
use Rattle.std.proofs.lemmas.Bool.{or_right, cases_lt}
use Rattle.std.proofs.lemmas.Bool.Decides.{nat_tests, Decides-int_eq}
use Rattle.std.proofs.lemmas.Option.{same_Some}
use Rattle.std.proofs.lemmas.Grind.{common_steps}
use Rattle.fz_kernel.proofs.of_meaning.of_base.Covers.{and-false, and-true}
use Rattle.fz_kernel.specs.of_meaning.Relations.{◌=ℤ◌, all_different, element_at, is_among, are_places, tour, end_of_tour, is_circuit, moved_from, is_one_tour, is_subcircuit}
use Rattle.fz_kernel.proofs.of_meaning.Values.{no, and_both, same_int}
use Rattle.fz_kernel.proofs.Left.{next}
use Rattle.fz_globals.proofs.Led.{element_place, one_place}

-- ---- steps

module _ (f : List ℤ) where
  pub one_further : (k : ℕ) (p q r : ℤ) → end_of_tour f k p ≡ Some q → element_at f q ≡ Some r
      → end_of_tour f (suc k) p ≡ Some r
  one_further zero p q r here leads = ap (option_and_then (end_of_tour f 0)) (ap (element_at f) (same_Some p q here) ∙ leads)
  one_further (suc k) p q r here leads =
      elim (element_at f p) as (λ o. option_and_then (end_of_tour f k) o ≡ Some q → option_and_then (end_of_tour f (suc k)) o ≡ Some r) [
        | None ↦ λ e. cc
        | Some s ↦ λ e. one_further k s q r e leads
      ] here

  -- a way of a + b steps
  pub walked_on : (a b c : ℕ) (p q : ℤ) → c ≡ a + b → end_of_tour f a p ≡ Some q
      → end_of_tour f c p ≡ end_of_tour f b q
  walked_on zero b c p q sum here = grind (arith, common_steps, same_Some)
  walked_on (suc a) b zero p q sum here = absurd (omega arith)
  walked_on (suc a) b (suc c) p q sum here =
      elim (element_at f p) as (λ o. option_and_then (end_of_tour f a) o ≡ Some q → option_and_then (end_of_tour f c) o ≡ end_of_tour f b q) [
        | None ↦ λ e. cc
        | Some s ↦ λ e. walked_on a b c s q (omega arith) e
      ] here

  pub on_the_way : (a b c : ℕ) (p r : ℤ) → c ≡ a + b → end_of_tour f c p ≡ Some r
      → (q : ℤ) × (end_of_tour f a p ≡ Some q) × (end_of_tour f b q ≡ Some r)
  on_the_way zero b c p r sum there =
      let same : c ≡ b = omega arith in
      (p, refl, subst (λ n. end_of_tour f n p ≡ Some r) same there)
  on_the_way (suc a) b zero p r sum there = absurd (omega arith)
  on_the_way (suc a) b (suc c) p r sum there =
      elim (element_at f p) as (λ o. option_and_then (end_of_tour f c) o ≡ Some r → (q : ℤ) × (option_and_then (end_of_tour f a) o ≡ Some q) × (end_of_tour f b q ≡ Some r)) [
        | None ↦ λ e. cc
        | Some s ↦ λ e. on_the_way a b c s r (omega arith) e
      ] there

  -- ---- the positions on the way

  pub is_on_tour : (m j : ℕ) (p q : ℤ) → j < m → end_of_tour f j q ≡ Some p
      → is_among p (tour f m q) ≡ true
  is_on_tour zero j p q h e = absurd (omega arith)
  is_on_tour (suc m) zero p q h e = ap (λ b. b || is_among p (option_map_or (tour f m) (element_at f q) [])) ((Decides-int_eq q p).1 (same_Some q p e))
  is_on_tour (suc m) (suc j) p q h e =
      or_right (q =ℤ p) (is_among p (option_map_or (tour f m) (element_at f q) []))
      (elim (element_at f q) as (λ o. option_and_then (end_of_tour f j) o ≡ Some p → is_among p (option_map_or (tour f m) o []) ≡ true) [
        | None ↦ λ e. cc
        | Some s ↦ λ e. is_on_tour m j p s (omega arith) e
      ] e)

  pub where_on_tour : (m : ℕ) (p q : ℤ) → is_among p (tour f m q) ≡ true
      → (j : ℕ) × (j < m) × (end_of_tour f j q ≡ Some p)
  where_on_tour zero p q e = no e
  where_on_tour (suc m) p q e =
      elim (q =ℤ p) as (λ b. (q =ℤ p) ≡ b → (b || is_among p (option_map_or (tour f m) (element_at f q) [])) ≡ true → (j : ℕ) × (j < suc m) × (end_of_tour f j q ≡ Some p)) [
        | true ↦ λ same _. (0, omega arith, ap Some (same_int q p same))
        | false ↦ λ _ later.
            elim (element_at f q) as (λ o. element_at f q ≡ o → is_among p (option_map_or (tour f m) o []) ≡ true → (j : ℕ) × (j < suc m) × (end_of_tour f j q ≡ Some p)) [
              | None ↦ λ _ e. no e
              | Some s ↦ λ leads e.
                  let there = where_on_tour m p s e in
                  (suc there.0, omega (arith, there.1), ap (option_and_then (end_of_tour f there.0)) leads ∙ there.2)
            ] refl later
      ] refl e

  -- where no position comes again on the way, all are different
  module _ (start : ℤ) (n : ℕ) (once : (i j : ℕ) (p : ℤ) → i + suc j < n → end_of_tour f i start ≡ Some p → end_of_tour f (suc j) p ≡ Some p → ⊥) where
    pub tour_differs : (m i : ℕ) (p : ℤ) → i + m ≡ n → end_of_tour f i start ≡ Some p
        → all_different (tour f m p) ≡ true
    tour_differs zero i p sum here = refl
    tour_differs (suc m) i p sum here =
        elim (element_at f p) as (λ o. element_at f p ≡ o → (not (is_among p (option_map_or (tour f m) o [])) && all_different (option_map_or (tour f m) o [])) ≡ true) [
          | None ↦ λ _. refl
          | Some s ↦ λ leads.
              and_both (not (is_among p (tour f m s))) (all_different (tour f m s))
              (elim (is_among p (tour f m s)) as (λ b. is_among p (tour f m s) ≡ b → not b ≡ true) [
                | true ↦ λ e.
                    let there = where_on_tour m p s e in
                    absurd (once i there.0 p (omega (arith, there.1)) here (ap (option_and_then (end_of_tour f there.0)) leads ∙ there.2))
                | false ↦ λ _. refl
              ] refl)
              (tour_differs m (suc i) s (omega arith) (one_further i start p s here leads))
        ] refl

  -- back at the start before the end
  pub back_early : (n k : ℕ) (start : ℤ) → 0 < k → k < n → end_of_tour f k start ≡ Some start
      → all_different (tour f n start) ≡ false
  back_early n k start h g back = grind (arith, common_steps, is_on_tour)

  abbrev pub NotBack : ℤ → ℕ → Type 0
  NotBack start n = (k : ℕ) → 0 < k → k < n → end_of_tour f k start ≡ Some start → ⊥

  -- one more step without coming back
  pub still_ahead : (start place step : ℕ) → NotBack (pos (start + 1)) step
      → end_of_tour f step (pos (start + 1)) ≡ Some (pos (place + 1))
      → (0 < step → place ≡ start → ⊥) → NotBack (pos (start + 1)) (step + 1)
  still_ahead start place step ahead here apart k some h back =
      grind (arith, common_steps, cases_lt)

  -- a way that ends where it began, and didn't come back before
  pub round : (start : ℤ) (n : ℕ) → NotBack start n → end_of_tour f n start ≡ Some start
      → all_different (tour f n start) ≡ true
  round start n apart back = tour_differs start n once n 0 start (omega arith) refl
    where
      once : (i j : ℕ) (p : ℤ) → i + suc j < n → end_of_tour f i start ≡ Some p
          → end_of_tour f (suc j) p ≡ Some p → ⊥
      once i j p h there again =
          let rest : end_of_tour f (n - i) p ≡ Some start = sym (walked_on i (n - i) n start p (omega arith) there) ∙ back in
          let short : end_of_tour f (n - i - suc j) p ≡ Some start = sym (walked_on (suc j) (n - i - suc j) (n - i) p p (omega arith) again) ∙ rest in
          apart (n - suc j) (omega arith) (omega arith) (walked_on i (n - i - suc j) (n - suc j) start p (omega arith) there ∙ short)

  -- ---- permutations

  module _ (apart : all_different f ≡ true) where
    from_one_place : (a b c : ℤ) → element_at f a ≡ Some c → element_at f b ≡ Some c → a ≡ b
    from_one_place a b c at_a at_b = search (rules, element_place, one_place)

    from_one_start : (i : ℕ) (a b p : ℤ) → end_of_tour f i a ≡ Some p → end_of_tour f i b ≡ Some p
        → a ≡ b
    from_one_start zero a b p to_a to_b = same_Some a p to_a ∙ sym (same_Some b p to_b)
    from_one_start (suc i) a b p to_a to_b =
        let one = on_the_way 1 i (suc i) a p (omega arith) to_a in
        let other = on_the_way 1 i (suc i) b p (omega arith) to_b in
        from_one_place a b one.0 (first_step a one.0 one.1) (first_step b one.0 (other.1 ∙ ap Some (sym (from_one_start i one.0 other.0 p one.2 other.2))))
      where
        first_step : (a c : ℤ) → end_of_tour f 1 a ≡ Some c → element_at f a ≡ Some c
        first_step a c e = elim (element_at f a) as (λ o. option_and_then (end_of_tour f 0) o ≡ Some c → o ≡ Some c) [ None ↦ λ e. e | Some s ↦ λ e. e ] e

    pub goes_through : (start : ℤ) (n : ℕ) → NotBack start n → all_different (tour f n start) ≡ true
    goes_through start n ahead = tour_differs start n once n 0 start (omega arith) refl
      where
        once : (i j : ℕ) (p : ℤ) → i + suc j < n → end_of_tour f i start ≡ Some p
            → end_of_tour f (suc j) p ≡ Some p → ⊥
        once i j p h there again =
            let twice : end_of_tour f (suc j + i) start ≡ Some p = walked_on i (suc j) (suc j + i) start p (omega arith) there ∙ again in
            let way = on_the_way (suc j) i (suc j + i) start p refl twice in
            ahead (suc j) (omega arith) (omega arith) (way.1 ∙ ap Some (from_one_start i way.0 start p way.2 there))

-- ---- circuits

module _ (f : List ℤ) where
  pub comes_to : (p : ℕ) → are_places (length f) f ≡ true
      → end_of_tour f (length f) (pos 1) ≡ Some (pos (p + 1)) → NotBack f (pos 1) (length f)
      → nat_eq p 0 ≡ is_circuit f
  comes_to p places end ahead = grind (arith, ints, nat_tests, round, same_int, and-false)

-- ---- the positions that are moved

module _ (f : List ℤ) (i : ℕ) (x : ℤ) (at : slice_get f i ≡ Some x) where
  one_moved : moved_from (pos (i + 1)) (drop i f) ≡ (if x =ℤ pos (i + 1)
      then moved_from (pos ((i + 1) + 1)) (drop (i + 1) f)
      else (pos (i + 1) ∷ moved_from (pos ((i + 1) + 1)) (drop (i + 1) f)))
  one_moved = ap (moved_from (pos (i + 1))) (next f i x at)

  pub stays : (x =ℤ pos (i + 1)) ≡ true
      → moved_from (pos (i + 1)) (drop i f) ≡ moved_from (pos ((i + 1) + 1)) (drop (i + 1) f)
  stays e = one_moved ∙ ap (λ b. if b then moved_from (pos ((i + 1) + 1)) (drop (i + 1) f) else (pos (i + 1) ∷ moved_from (pos ((i + 1) + 1)) (drop (i + 1) f))) e

  pub moves : (x =ℤ pos (i + 1)) ≡ false → moved_from (pos (i + 1)) (drop i f)
      ≡ pos (i + 1) ∷ moved_from (pos ((i + 1) + 1)) (drop (i + 1) f)
  moves e = one_moved ∙ ap (λ b. if b then moved_from (pos ((i + 1) + 1)) (drop (i + 1) f) else (pos (i + 1) ∷ moved_from (pos ((i + 1) + 1)) (drop (i + 1) f))) e

pub tour_from : (f ms : List ℤ) (p : ℤ) → slice_get ms 0 ≡ Some p
    → is_one_tour f ms ≡ all_different (tour f (length ms) p)
tour_from f [] p at = cc
tour_from f (m ∷ ms) p at = ap (λ q. all_different (tour f (length (m ∷ ms)) q)) (same_Some m p at)

module _ (f : List ℤ) where
  pub no_permutation : are_places (length f) f ≡ true → all_different f ≡ false
      → false ≡ is_subcircuit f
  no_permutation places same = sym (λ k. places k && same k && is_one_tour f (moved_from (pos 1) f) && not (nat_eq (length f) 0))

  pub permutation : are_places (length f) f ≡ true → all_different f ≡ true
      → nat_eq (length f) 0 ≡ false → is_one_tour f (moved_from (pos 1) f) ≡ is_subcircuit f
  permutation places apart some =
      sym ((λ k. places k && apart k && is_one_tour f (moved_from (pos 1) f) && not (some k)) ∙ and-true (is_one_tour f (moved_from (pos 1) f)))

pub no_positions : (f : List ℤ) → length f ≡ 0 → false ≡ is_subcircuit f
no_positions [] none = refl
no_positions (x ∷ f) none = absurd (omega arith)
