-- A number whose magnitude is cut off at the greatest `u64` is outside the limit just where the
-- number is.
use Rattle.std.proofs.Common.{◌≡◌, ℕ, ◌-◌, ◌^◌, ◌≤◌, min, List, Option, Some, None, option_map, Bool, true, false, ⊎_elim, arith}
use Rattle.std.proofs.lemmas.Int.{ints}
use Rattle.fz_tree.specs.Lexing.{IsWithinLimit}
use Rattle.fz_tree.specs.Scan.{signed, number_token, front_of}
use Rattle.fz_tree.specs.Found.{IsNumberFound, IsFrontOf}
use Rattle.fz_tree.specs.declared.scanner.Front.{Front}

magnitude_within : (negative : Bool) (n : ℕ) → IsWithinLimit (signed negative n) → n ≤ 2 ^ 63
magnitude_within true n h = omega (arith, ints, h.0, h.1)
magnitude_within false n h = omega (arith, ints, h.0, h.1)

pub number_is : (bytes : List ℕ) (negative : Bool) (len : ℕ) (natural magnitude : Option ℕ)
    (front : Front) → magnitude ≡ option_map (λ n. min n (2 ^ 64 - 1)) natural
    → front_of bytes ≡ number_token negative len bytes natural
    → IsNumberFound negative len magnitude front → IsFrontOf bytes front
number_is bytes negative len None magnitude front m f h =
    let e = (rw m at h) in rw e (f, tt)
number_is bytes negative len (Some n) magnitude front m f h =
    let h' : IsNumberFound negative len (Some (min n (2 ^ 64 - 1))) front = rw m at h in
    ⊎_elim
    (λ w.
    let same : min n (2 ^ 64 - 1) ≡ n = omega (arith, magnitude_within negative (min n (2 ^ 64 - 1)) w.1) in
    let e = w.0 in
    let within = w.1 in
    rw (e, same) (f, rw same at within))
    (λ w.
    let e = w.0 in
    rw e (signed negative n, f, λ h. w.1 (let same : min n (2 ^ 64 - 1) ≡ n = omega (arith, magnitude_within negative n h) in rw same h)))
    h'
