use Rattle.std.proofs.Common.{◌≡◌, ℕ, ◌<◌, ◌≤◌, ◌<ℤ◌, ◌≤ℤ◌, pos, get_or, length, IfSome, IfNone, FitsSigned, w64, subst, refl, arith, rules}
use Rattle.std.specs.Int.{w128}
use Rattle.std.proofs.lemmas.Int.{to_z-of_z}
use Rattle.fz_globals.specs.Keys.{key}
use Rattle.fz_globals.proofs.FirstPlaces.{first_told, none_behind}
use Rattle.fz_globals.proofs.firsts.first_place.Goals as goal

pub returns-then-place-keys : goal.returns-then-place-keys
returns-then-place-keys c =
    let v = c.args.number in
    let ks = c.args.keys.now in
    let i = c.place_up_from-place.result in
    let fits_v : FitsSigned w64 v = c.ranges.number in
    let fits_key : FitsSigned w128 c.key.result = search rules in
    let is : c.key.result ≡ key v 0 = simp to_z-of_z at c.key.ensures in
    let below : (k : ℕ) → k < i → get_or ks k (pos 0) <ℤ c.key.result = simp to_z-of_z at c.place_up_from-place.ensures.below in
    let from : (k : ℕ) → i ≤ k → k < length ks → c.key.result ≤ℤ get_or ks k (pos 0) = simp to_z-of_z at c.place_up_from-place.ensures.from in
    let fits_z : FitsSigned w128 (get_or ks i (pos 0)) = search rules in
    let some : IfSome c.place_of_pair.result (λ p. get_or ks i (pos 0) ≡ key v p) = simp to_z-of_z at c.place_of_pair.ensures.some in
    let none : IfNone c.place_of_pair.result ((p : ℕ) → p < 18446744073709551616 → get_or ks i (pos 0) ≡ key v p → ⊥) = simp to_z-of_z at c.place_of_pair.ensures.none in
    λ xs keys.
    first_told xs ks keys c.requires v i (subst (λ low. (k : ℕ) → k < i → get_or ks k (pos 0) <ℤ low) is below)
    (get_or ks i (pos 0)) c.place_of_pair.result (omega arith) refl (subst (λ low. (k : ℕ) → i ≤ k → k < length ks → low ≤ℤ get_or ks k (pos 0)) is from)
    some c.place_of_pair.ensures.short none

pub returns-else-place-keys : goal.returns-else-place-keys
returns-else-place-keys c =
    let v = c.args.number in
    let ks = c.args.keys.now in
    let i = c.place_up_from-place.result in
    let fits_v : FitsSigned w64 v = c.ranges.number in
    let fits_key : FitsSigned w128 c.key.result = search rules in
    let is : c.key.result ≡ key v 0 = simp to_z-of_z at c.key.ensures in
    let below : (k : ℕ) → k < i → get_or ks k (pos 0) <ℤ c.key.result = simp to_z-of_z at c.place_up_from-place.ensures.below in
    λ xs keys. none_behind xs ks keys c.requires v i (subst (λ low. (k : ℕ) → k < i → get_or ks k (pos 0) <ℤ low) is below) (omega arith)
