-- The index of the first element that is a number, and of the first that is the best.
use Rattle.std.proofs.Common.{◌≡◌, ℕ, ◌+◌, ℤ, pos, ◌+ℤ◌, Bool, true, false, ◌&&◌, ◌||◌, List, [], ◌∷◌, drop, if◌then◌else◌, Option, Some, slice_get, refl, sym, ap, subst, ◌∙◌, arith, rules}
use Rattle.std.specs.List.{list_all, list_any}
use Rattle.std.specs.Cmp.{both_ways}
use Rattle.std.proofs.lemmas.Int.{ints}
use Rattle.std.proofs.lemmas.Bool.{or_right}
use Rattle.std.proofs.lemmas.Bool.Decides.{Decides-int_eq}
use Rattle.fz_kernel.specs.of_meaning.Relations.{◌=ℤ◌, is_among, index_from}
use Rattle.fz_kernel.proofs.of_meaning.Values.{no, and_first, and_second, and_both, same_int, int_itself}
use Rattle.fz_globals.proofs.Compared.{is_other}
use Rattle.fz_kernel.proofs.Left.{next}
use Rattle.fz_kernel.proofs.Best.{IsOrder, is_best, is_the_best}

-- ---- the first element that is a number

pub one_on : (o : ℤ) (i : ℕ) → ((o +ℤ pos i) +ℤ pos 1) ≡ (o +ℤ pos (i + 1))
one_on o i = omega (arith, ints)

pub from_first : (o : ℤ) → (o +ℤ pos 0) ≡ o
from_first o = omega (arith, ints)

module _ (o n : ℤ) (xs : List ℤ) (i : ℕ) (r : Option ℤ) (so_far : r ≡ index_from (o +ℤ pos i) (drop i xs) n) where
  module _ (x : ℤ) (at : slice_get xs i ≡ Some x) where
    one : r ≡ (if x =ℤ n then Some (o +ℤ pos i)
        else index_from ((o +ℤ pos i) +ℤ pos 1) (drop (i + 1) xs) n)
    one = so_far ∙ ap (λ l. index_from (o +ℤ pos i) l n) (next xs i x at)

    pub stands_there : x ≡ n → r ≡ Some (o +ℤ pos i)
    stands_there same = one ∙ ap (λ b. if b then Some (o +ℤ pos i) else index_from ((o +ℤ pos i) +ℤ pos 1) (drop (i + 1) xs) n) ((Decides-int_eq x n).1 same)

    pub stands_behind : ¬ (x ≡ n) → r ≡ index_from (o +ℤ pos (i + 1)) (drop (i + 1) xs) n
    stands_behind other = search (rules, one, is_other, one_on)

-- ---- the best

any_at : (test : ℤ → Bool) (m : ℤ) (xs : List ℤ) → is_among m xs ≡ true → test m ≡ true
    → list_any test xs ≡ true
any_at test m [] among passed = no among
any_at test m (x ∷ xs) among passed =
    elim (x =ℤ m) as (λ b. (x =ℤ m) ≡ b → (b || is_among m xs) ≡ true → (test x || list_any test xs) ≡ true) [
      | true ↦ λ same _. ap (λ b. b || list_any test xs) (subst (λ y. test y ≡ true) (sym (same_int x m same)) passed)
      | false ↦ λ _ later. or_right (test x) (list_any test xs) (any_at test m xs later passed)
    ] refl among

which : (test : ℤ → Bool) (xs : List ℤ) → list_any test xs ≡ true
    → (m : ℤ) × (is_among m xs ≡ true) × (test m ≡ true)
which test [] any = no any
which test (x ∷ xs) any =
    elim (test x) as (λ b. test x ≡ b → (b || list_any test xs) ≡ true → (m : ℤ) × (is_among m (x ∷ xs) ≡ true) × (test m ≡ true)) [
      | true ↦ λ passed _. (x, ap (λ b. b || is_among x xs) (int_itself x), passed)
      | false ↦ λ _ later.
          let there = which test xs later in
          (there.0, or_right (x =ℤ there.0) (is_among there.0 xs) there.1, there.2)
    ] refl any

-- what is so of the best is so of one that no other exceeds
pub at_the_best : (below : ℤ → ℤ → Bool) → IsOrder below → (xs : List ℤ) (m : ℤ) (g : ℤ → Bool)
    → is_best below m xs ≡ true → g m ≡ list_any (λ n. list_all (λ x. below x n) xs && g n) xs
at_the_best below order xs m g best =
    both_ways (g m) (list_any (λ n. list_all (λ x. below x n) xs && g n) xs)
    (λ passed. any_at (λ n. list_all (λ x. below x n) xs && g n) m xs
    (and_first (is_among m xs) (list_all (λ x. below x m) xs) best)
    (and_both (list_all (λ x. below x m) xs) (g m) (and_second (is_among m xs) (list_all (λ x. below x m) xs) best) passed))
    (λ any.
    let there = which (λ n. list_all (λ x. below x n) xs && g n) xs any in
    let all : list_all (λ x. below x there.0) xs ≡ true = and_first (list_all (λ x. below x there.0) xs) (g there.0) there.2 in
    let same : there.0 ≡ m = same_int there.0 m (is_the_best below order xs m there.0 best ∙ and_both (is_among there.0 xs) (list_all (λ x. below x there.0) xs) there.1 all) in
    subst (λ n. g n ≡ true) same (and_second (list_all (λ x. below x there.0) xs) (g there.0) there.2))
