-- From the mask of one load of bytes to the bytes that pass a test, and from a load to the whole.
use Rattle.std.proofs.Common.{◌≡◌, ℕ, ◌+◌, ◌%◌, ◌^◌, ◌<◌, ◌≤◌, cond, eqb, Bool, true, not, List, [], ◌∷◌, map, length, take, drop, get_or, replicate, Fits, w8, zero, suc, refl, sym, ap, ap₂, ◌∙◌, arith}
use Rattle.std.proofs.lemmas.Bool.{agree_below, agree_below_at}
use Rattle.std.proofs.lemmas.Simd.{map-map, mask_l-mod, length-chunk, chunk-fits, zip2-map, first_set_mask_l}
use Rattle.std.proofs.lemmas.List.{length-map, length-take, drop-drop}
use Rattle.std.proofs.lemmas.List.Sums.{prefix_len-le-length}
use Rattle.std.specs.List.{prefix_len}
use Rattle.std.specs.Int.{w64, trailing_zeros}
use lib.Lanes.{chunk, zip2, mask_l, top, Each1}

-- an operation on two vectors that were computed lane by lane from v
pub joined : (h : ℕ → ℕ → ℕ) (f g : ℕ → ℕ) (v : List ℕ) {a b : List ℕ} → a ≡ map f v → b ≡ map g v
    → zip2 h a b ≡ map (λ x. h (f x) (g x)) v
joined h f g v p q = ap₂ (zip2 h) p q ∙ zip2-map h f g v

pub splat_is : (v : List ℕ) (n y : ℕ) → length v ≡ n → replicate n y ≡ map (λ _. y) v
splat_is [] n y e = ap (λ k. replicate k y) (sym e)
splat_is (x ∷ xs) n y e = ap (λ k. replicate k y) (sym e) ∙ ap (λ r. y ∷ r) (splat_is xs (length xs) y refl)

-- two tests that agree on all bytes have the same run in front
same_run : (p q : ℕ → Bool) → agree_below p q 256 ≡ true → (xs : List ℕ) → Each1 (Fits w8) xs
    → prefix_len p xs ≡ prefix_len q xs
same_run p q h [] f = refl
same_run p q h (x ∷ xs) f =
    ap₂ (λ b n. cond b (1 + n) 0) (agree_below_at p q 256 x h f.0.fits) (same_run p q h xs f.1)

-- a lane's top bit is set just where its byte fails the test
pub run_in : (test : ℕ → Bool) (bytes : List ℕ) (at n : ℕ) (f : ℕ → ℕ) (lanes : List ℕ)
    → at + n ≤ length bytes → n ≤ 64 → ((k : ℕ) → Fits w8 (get_or bytes k 0))
    → lanes ≡ map f (chunk at n bytes) → agree_below (λ x. not (top 7 (f x))) test 256 ≡ true
    → cond (eqb (mask_l (map (top 7) lanes) % 2 ^ 64) 0) n (trailing_zeros w64 (mask_l (map (top 7) lanes) % 2 ^ 64)) ≡ prefix_len test (take n (drop at bytes))
run_in test bytes at n f lanes room few fits are all =
    let v = chunk at n bytes in
    let long = length-chunk at n bytes room in
    let stops = λ (x : ℕ). top 7 (f x) in
    let mask = ap (λ l. mask_l l % 2 ^ 64) (ap (map (top 7)) are ∙ map-map (top 7) f v) ∙ mask_l-mod (map stops v) 64 (omega (arith, length-map v stops, long)) in
    ap (λ m. cond (eqb m 0) n (trailing_zeros w64 m)) mask ∙ first_set_mask_l stops v n long few ∙ same_run (λ x. not (stops x)) test all v (chunk-fits w8 at n bytes fits)

-- where all of the first n pass, the run goes on behind them
pub whole_load : (p : ℕ → Bool) (n : ℕ) (xs : List ℕ) → prefix_len p (take n xs) ≡ n
    → prefix_len p xs ≡ n + prefix_len p (drop n xs)
whole_load p zero xs e = omega arith
whole_load p (suc n) [] e = absurd (omega arith)
whole_load p (suc n) (x ∷ xs) e = grind (arith, whole_load p n xs)

-- where one of the first n fails, the run ends before it
pub part_load : (p : ℕ → Bool) (n : ℕ) (xs : List ℕ) → prefix_len p (take n xs) < n
    → prefix_len p xs ≡ prefix_len p (take n xs)
part_load p zero xs h = absurd (omega arith)
part_load p (suc n) [] h = refl
part_load p (suc n) (x ∷ xs) h = grind (arith, part_load p n xs)

pub load_within : (p : ℕ → Bool) (n : ℕ) (xs : List ℕ) → n ≤ length xs
    → prefix_len p (take n xs) ≤ n
load_within p n xs h = omega (arith, prefix_len-le-length p (take n xs), length-take n xs)

-- the run of a list, of which so many elements were seen to pass, after one more load
pub load_ends : (p : ℕ → Bool) (n : ℕ) (bytes : List ℕ) (at run total : ℕ)
    → at + prefix_len p (drop at bytes) ≡ total → run ≡ prefix_len p (take n (drop at bytes))
    → run < n → at + run ≡ total
load_ends p n bytes at run total seen is part = omega (arith, part_load p n (drop at bytes) (omega arith))

pub load_goes_on : (p : ℕ → Bool) (n : ℕ) (bytes : List ℕ) (at run total : ℕ)
    → at + prefix_len p (drop at bytes) ≡ total → run ≡ prefix_len p (take n (drop at bytes))
    → run ≡ n → (at + run) + prefix_len p (drop (at + run) bytes) ≡ total
load_goes_on p n bytes at run total seen is whole =
    let more = whole_load p n (drop at bytes) (sym is ∙ whole) in
    let behind : drop n (drop at bytes) ≡ drop (at + run) bytes = drop-drop n at bytes ∙ ap (λ k. drop k bytes) (omega arith) in
    let rest = rw behind at more in
    omega arith
