-- At no time is more used than at the start of a task that lasts and uses something.
use Rattle.std.proofs.Common.{◌≡◌, ◌<◌, ℤ, pos, ◌+ℤ◌, Bool, true, false, ◌&&◌, ◌||◌, not, List, [], ◌∷◌, ◌⊎◌, inl, inr, length, refl, sym, subst, ◌∙◌, arith, int_le, int_lt}
use Rattle.std.proofs.lemmas.Int.{ints}
use Rattle.std.proofs.lemmas.Bool.Decides.{nat_tests}
use Rattle.std.specs.List.{filter, list_all}
use Rattle.std.specs.Prelude.{cond, nat_eq}
use Rattle.fz_model.specs.Relations.{◌=ℤ◌, Span, is_cumulative, is_natural, runs_at, used_at}
use Rattle.fz_bounds.proofs.Chosen.{one_kept}
use Rattle.fz_model.proofs.Values.{no, no', and_both, and_first, and_second, same_int}

abbrev Task : Type 0
Task = Span × ℤ

-- it doesn't run at the time, or uses nothing
abbrev is_idle : ℤ → Task → Bool
is_idle time k = not (runs_at time k.0) || (k.1 =ℤ pos 0)

-- or it started by another time
abbrev starts_by : ℤ → ℤ → Task → Bool
starts_by time last k = is_idle time k || int_le k.0.0 last

all_weaker : (f g : Task → Bool) (ks : List Task) → ((k : Task) → f k ≡ true → g k ≡ true)
    → list_all f ks ≡ true → list_all g ks ≡ true
all_weaker f g [] h e = refl
all_weaker f g (k ∷ ks) h e =
    and_both (g k) (list_all g ks) (h k (and_first (f k) _ e)) (all_weaker f g ks h (and_second (f k) _ e))

or_first : (a b : Bool) → a ≡ true → (a || b) ≡ true
or_first true b e = refl
or_first false b e = no e

or_second : (a b : Bool) → b ≡ true → (a || b) ≡ true
or_second true b e = refl
or_second false b e = e

either : (a b : Bool) → (a || b) ≡ true → a ≡ false → b ≡ true
either true b e f = no' f
either false b e f = e

-- ---- what is used

used_more : (k : Task) (ks : List Task) (t : ℤ)
    → used_at t (k ∷ ks) ≡ cond (runs_at t k.0) k.1 (pos 0) +ℤ used_at t ks
used_more (a, r) ks t = one_kept (runs_at t a) a r (filter (λ k. runs_at t k.0) ks)

module _ (t : ℤ) where
  none_used : (ks : List Task) → list_all (is_idle t) ks ≡ true → used_at t ks ≡ pos 0
  none_used [] e = refl
  none_used ((a, r) ∷ ks) e =
      used_more (a, r) ks t ∙ (λ j. here (runs_at t a) (and_first (is_idle t (a, r)) _ e) j +ℤ none_used ks (and_second (is_idle t (a, r)) _ e) j)
    where
      here : (b : Bool) → (not b || (r =ℤ pos 0)) ≡ true → cond b r (pos 0) ≡ pos 0
      here true e = same_int r (pos 0) e
      here false e = refl

  -- what is used is used at an earlier time too, by which all have started
  module _ (s : ℤ) (before : int_le s t ≡ true) where
    still_runs : (b d r : ℤ) → starts_by t s ((b, d), r) ≡ true → runs_at t (b, d) ≡ true
        → (r =ℤ pos 0) ≡ false → runs_at s (b, d) ≡ true
    still_runs b d r l runs uses =
        let idle : is_idle t ((b, d), r) ≡ false = (λ j. not (runs j) || uses j) in
        let first : int_le b s ≡ true = either (is_idle t ((b, d), r)) (int_le b s) l idle in
        let last : int_lt t (b +ℤ d) ≡ true = and_second (int_le b t) (int_lt t (b +ℤ d)) runs in
        and_both (int_le b s) (int_lt s (b +ℤ d)) first (grind (arith, ints))

    no_less : (p q : Bool) (r : ℤ) → is_natural r ≡ true
        → (p ≡ true → (r =ℤ pos 0) ≡ false → q ≡ true)
        → int_le (cond p r (pos 0)) (cond q r (pos 0)) ≡ true
    no_less false true r n f = n
    no_less false false r n f = refl
    no_less true true r n f = grind (arith, ints)
    no_less true false r n f =
        (elim (r =ℤ pos 0) as (λ z. (r =ℤ pos 0) ≡ z → int_le r (pos 0) ≡ true) [
          | true ↦ λ e. let is : r ≡ pos 0 = same_int r (pos 0) e in grind (arith, ints)
          | false ↦ λ e. no (f refl e)
        ]) refl

    used_before : (ks : List Task) → list_all (λ k. is_natural k.0.1 && is_natural k.1) ks ≡ true
        → list_all (starts_by t s) ks ≡ true → int_le (used_at t ks) (used_at s ks) ≡ true
    used_before [] n l = refl
    used_before (((b, d), r) ∷ ks) n l =
        added (cond (runs_at t (b, d)) r (pos 0)) (cond (runs_at s (b, d)) r (pos 0)) (used_at t ks) (used_at s ks) _ _
        (used_more ((b, d), r) ks t) (used_more ((b, d), r) ks s)
        (no_less (runs_at t (b, d)) (runs_at s (b, d)) r (and_second (is_natural d) (is_natural r) (and_first (is_natural d && is_natural r) _ n)) (still_runs b d r (and_first (starts_by t s ((b, d), r)) _ l)))
        (used_before ks (and_second (is_natural d && is_natural r) _ n) (and_second (starts_by t s ((b, d), r)) _ l))
      where
        added : (a b u v x y : ℤ) → x ≡ (a +ℤ u) → y ≡ (b +ℤ v) → int_le a b ≡ true
            → int_le u v ≡ true → int_le x y ≡ true
        added a b u v x y e f h k = grind (arith, ints)

  -- ---- the task that started last

  record IsLatest (ks : List Task) (k : Task) : Type 0 where
    passes : (f : Task → Bool) → list_all f ks ≡ true → f k ≡ true
    runs : runs_at t k.0 ≡ true
    uses : (k.1 =ℤ pos 0) ≡ false
    last : list_all (starts_by t k.0.0) ks ≡ true

  abbrev Latest : List Task → Type 0
  Latest ks = (list_all (is_idle t) ks ≡ true) ⊎ ((k : Task) × IsLatest ks k)

  idle_first : (j : Task) (ks : List Task) → is_idle t j ≡ true → Latest ks → Latest (j ∷ ks)
  idle_first j ks e (inl none) = inl (and_both (is_idle t j) _ e none)
  idle_first j ks e (inr (k, h)) = inr (
    k,
    record {
      passes = λ f all. h.passes f (and_second (f j) _ all);
      runs = h.runs;
      uses = h.uses;
      last = and_both (starts_by t k.0.0 j) _ (or_first (is_idle t j) _ e) h.last;
    },
  )

  itself_last : (j : Task) → starts_by t j.0.0 j ≡ true
  itself_last j = or_second (is_idle t j) (int_le j.0.0 j.0.0) (grind (arith, ints))

  busy_first : (j : Task) (ks : List Task) → runs_at t j.0 ≡ true → (j.1 =ℤ pos 0) ≡ false
      → Latest ks → Latest (j ∷ ks)
  busy_first j ks runs uses (inl none) = inr (
    j,
    record {
      passes = λ f all. and_first (f j) _ all;
      runs = runs;
      uses = uses;
      last = and_both (starts_by t j.0.0 j) _ (itself_last j) (all_weaker (is_idle t) (starts_by t j.0.0) ks (λ k e. or_first (is_idle t k) _ e) none);
    },
  )
  busy_first j ks runs uses (inr (k, h)) =
      (elim (int_le k.0.0 j.0.0) as (λ b. int_le k.0.0 j.0.0 ≡ b → Latest (j ∷ ks)) [
        | true ↦ λ e. inr (
          j,
          record {
            passes = λ f all. and_first (f j) _ all;
            runs = runs;
            uses = uses;
            last = and_both (starts_by t j.0.0 j) _ (itself_last j) (all_weaker (starts_by t k.0.0) (starts_by t j.0.0) ks (λ i l. later (is_idle t i) i.0.0 k.0.0 j.0.0 e l) h.last);
          },
        )
        | false ↦ λ e. inr (
          k,
          record {
            passes = λ f all. h.passes f (and_second (f j) _ all);
            runs = h.runs;
            uses = h.uses;
            last = and_both (starts_by t k.0.0 j) _ (or_second (is_idle t j) (int_le j.0.0 k.0.0) (grind (arith, ints))) h.last;
          },
        )
      ]) refl
    where
      later : (b : Bool) (i k j : ℤ) → int_le k j ≡ true → (b || int_le i k) ≡ true
          → (b || int_le i j) ≡ true
      later true i k j e l = refl
      later false i k j e l = grind (arith, ints)

  find_latest : (ks : List Task) → Latest ks
  find_latest [] = inl refl
  find_latest (j ∷ ks) =
      (elim (is_idle t j) as (λ b. is_idle t j ≡ b → Latest (j ∷ ks)) [
        | true ↦ λ e. idle_first j ks e (find_latest ks)
        | false ↦ λ e. busy_first j ks (first (runs_at t j.0) (j.1 =ℤ pos 0) e) (second (runs_at t j.0) (j.1 =ℤ pos 0) e) (find_latest ks)
      ]) refl
    where
      first : (a b : Bool) → (not a || b) ≡ false → a ≡ true
      first true b e = refl
      first false b e = no' e

      second : (a b : Bool) → (not a || b) ≡ false → b ≡ false
      second true b e = e
      second false b e = no' e

-- ---- tasks that use more than there is at some time

module _ (ks : List Task) (most t : ℤ) (some : 0 < length ks) where
  abbrev all_natural : Bool
  all_natural = list_all (λ k. is_natural k.0.1 && is_natural k.1) ks

  abbrev keeps_within : Task → Bool
  keeps_within k = (k.0.1 =ℤ pos 0) || (k.1 =ℤ pos 0) || int_le (used_at k.0.0 ks) most

  within : is_cumulative ks most ≡ true → int_le (used_at t ks) most ≡ true
  within e =
      let first : (all_natural && (nat_eq (length ks) 0 || is_natural most)) ≡ true = and_first _ (list_all keeps_within ks) e in
      let natural : all_natural ≡ true = and_first all_natural _ first in
      elim (find_latest t ks) [
        | inl none ↦
            let not_less : is_natural most ≡ true = either (nat_eq (length ks) 0) (is_natural most) (and_second all_natural _ first) (grind (arith, nat_tests)) in
            subst (λ u. int_le u most ≡ true) (sym (none_used t ks none)) not_less
        | inr (k, h) ↦
            let started : int_le k.0.0 t ≡ true = and_first (int_le k.0.0 t) _ h.runs in
            let keeps : keeps_within k ≡ true = h.passes keeps_within (and_second _ (list_all keeps_within ks) e) in
            let more = used_before t k.0.0 started ks natural h.last in
            let most' : int_le (used_at k.0.0 ks) most ≡ true = either ((k.0.1 =ℤ pos 0) || (k.1 =ℤ pos 0)) (int_le (used_at k.0.0 ks) most) keeps (λ j. lasts k.0.0 k.0.1 h.runs j || h.uses j) in
            at_most (used_at t ks) (used_at k.0.0 ks) more most'
      ]
    where
      at_most : (a b : ℤ) → int_le a b ≡ true → int_le b most ≡ true → int_le a most ≡ true
      at_most a b h k = grind (arith, ints)

      lasts : (s d : ℤ) → runs_at t (s, d) ≡ true → (d =ℤ pos 0) ≡ false
      lasts s d h =
          (elim (d =ℤ pos 0) as (λ b. (d =ℤ pos 0) ≡ b → b ≡ false) [
            | true ↦ λ e.
                let is : d ≡ pos 0 = same_int d (pos 0) e in
                let from : int_le s t ≡ true = and_first (int_le s t) _ h in
                let to : int_lt t (s +ℤ d) ≡ true = and_second (int_le s t) _ h in
                absurd (grind (arith, ints))
            | false ↦ λ _. refl
          ]) refl

  pub too_much : int_le (used_at t ks) most ≡ false → is_cumulative ks most ≡ false
  too_much h =
      (elim (is_cumulative ks most) as (λ b. is_cumulative ks most ≡ b → b ≡ false) [
        | true ↦ λ e. no' (sym (within e) ∙ h)
        | false ↦ λ _. refl
      ]) refl
