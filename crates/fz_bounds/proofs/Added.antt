-- Sums of products within ranges, added one after another.
use Rattle.std.proofs.Common.{◌≡◌, ℕ, ◌+◌, ℤ, pos, ◌+ℤ◌, ◌*ℤ◌, Bool, true, false, List, ◌∷◌, drop, Some, slice_get, sym, ap, subst, ◌∙◌, arith}
use Rattle.std.proofs.lemmas.Int.{ints}
use Rattle.std.specs.List.{filter}
use Rattle.std.specs.Prelude.{cond, length}
use Rattle.fz_model.specs.Relations.{as_number, products, total, where_true}
use Rattle.fz_model.proofs.of_builtins.of_kernel.Left.{next}
use Rattle.fz_bounds.specs.Decided.{LiesIn}
use Rattle.fz_bounds.specs.declared.range.Range.{Range}

-- the sum of what came so far lies in the range
pub record IsSoFar (whole rest : ℤ) (r : Range) : Type 0 where
  pub sum : ℤ
  pub lies : LiesIn r sum
  pub all : whole ≡ sum +ℤ rest

regroup : (a b c : ℤ) → (a +ℤ (b +ℤ c)) ≡ ((a +ℤ b) +ℤ c)
regroup a b c = omega (arith, ints)

from_zero : (a : ℤ) → a ≡ (pos 0 +ℤ a)
from_zero a = omega (arith, ints)

to_zero : (a : ℤ) → (a +ℤ pos 0) ≡ a
to_zero a = omega (arith, ints)

pub none_so_far : (whole : ℤ) (r : Range) → LiesIn r (pos 0) → IsSoFar whole whole r
none_so_far whole r lies = record { sum = pos 0; lies = lies; all = from_zero whole }

-- one more number, in a range of its own
pub one_more : (whole rest later n : ℤ) (r t q : Range) → IsSoFar whole rest r
    → rest ≡ n +ℤ later → LiesIn t n → ((a b : ℤ) → LiesIn r a → LiesIn t b → LiesIn q (a +ℤ b))
    → IsSoFar whole later q
one_more whole rest later n r t q so_far next lies plus = record {
  sum = so_far.sum +ℤ n;
  lies = plus so_far.sum n so_far.lies lies;
  all = so_far.all ∙ ap (λ z. so_far.sum +ℤ z) next ∙ regroup so_far.sum n later;
}

pub all_so_far : (whole rest : ℤ) (r : Range) → IsSoFar whole rest r → rest ≡ pos 0
    → LiesIn r whole
all_so_far whole rest r so_far none =
    let is : whole ≡ so_far.sum = so_far.all ∙ ap (λ z. so_far.sum +ℤ z) none ∙ to_zero so_far.sum in
    subst (LiesIn r) (sym is) so_far.lies

-- ---- the next number

pub next_product : (as' bs : List ℤ) (i : ℕ) (a b : ℤ) → slice_get as' i ≡ Some a
    → slice_get bs i ≡ Some b → total (products (drop i as') (drop i bs))
    ≡ (a *ℤ b) +ℤ total (products (drop (i + 1) as') (drop (i + 1) bs))
next_product as' bs i a b d e = λ j. total (products (next as' i a d j) (next bs i b e j))

counted : (a : ℤ) (b : Bool) (as' : List ℤ) (bs : List Bool)
    → total (where_true (a ∷ as') (b ∷ bs)) ≡ (a *ℤ as_number b) +ℤ total (where_true as' bs)
counted a true as' bs = let one : a *ℤ pos 1 ≡ a = grind (arith, ints) in ap (λ z. z +ℤ total (where_true as' bs)) (sym one)
counted a false as' bs = let none : a *ℤ pos 0 ≡ pos 0 = grind (arith, ints) in from_zero (total (where_true as' bs)) ∙ ap (λ z. z +ℤ total (where_true as' bs)) (sym none)

pub next_counted : (as' : List ℤ) (bs : List Bool) (i : ℕ) (a : ℤ) (b : Bool)
    → slice_get as' i ≡ Some a → slice_get bs i ≡ Some b
    → total (where_true (drop i as') (drop i bs))
    ≡ (a *ℤ as_number b) +ℤ total (where_true (drop (i + 1) as') (drop (i + 1) bs))
next_counted as' bs i a b d e =
    (λ j. total (where_true (next as' i a d j) (next bs i b e j))) ∙ counted a b (drop (i + 1) as') (drop (i + 1) bs)

one_less : (b : Bool) (x : ℤ) (xs : List ℤ)
    → pos (length (cond b (x ∷ xs) xs)) ≡ as_number b +ℤ pos (length xs)
one_less true x xs = omega (arith, ints)
one_less false x xs = omega (arith, ints)

pub next_passing : (f : ℤ → Bool) (xs : List ℤ) (i : ℕ) (x : ℤ) → slice_get xs i ≡ Some x
    → pos (length (filter f (drop i xs)))
    ≡ as_number (f x) +ℤ pos (length (filter f (drop (i + 1) xs)))
next_passing f xs i x at =
    ap (λ ys. pos (length (filter f ys))) (next xs i x at) ∙ one_less (f x) x (filter f (drop (i + 1) xs))
