use Rattle.std.proofs.Common.{◌≡◌, ◌+◌, ◌∷◌, ◌++◌, [], drop, FitsSigned, w64, sym, ap, ◌∙◌, rules}
use Rattle.std.specs.Int.{w128}
use Rattle.std.proofs.lemmas.Int.{to_z-of_z}
use Rattle.fz_kernel.specs.Views.{ints}
use Rattle.fz_globals.specs.Keys.{key, keys_from}
use Rattle.fz_globals.proofs.FirstPlaces.{one_more_key}
use Rattle.fz_globals.proofs.firsts.keys_of.Goals as goal

pub loop-place-preserved : goal.loop-place-preserved
loop-place-preserved c =
    let xs = ints c.args.elements.now in
    let i = c.loop-place.place in
    let x = c.int.result in
    let ks = c.loop-place.keys.items in
    let fits_x : FitsSigned w64 x = search rules in
    let fits_key : FitsSigned w128 c.key.result = search rules in
    let is : c.key.result ≡ key x i = simp to_z-of_z at c.key.ensures in
    let pushed : c.push.new.self.items ≡ (ks ++ c.key.result ∷ []) = simp to_z-of_z at c.in_ok-push.ensures.items in
    ap (λ l. l ++ keys_from (i + 1) (drop (i + 1) xs)) (pushed ∙ ap (λ z. ks ++ z ∷ []) is) ∙ sym (one_more_key ks xs i x c.int.ensures.read) ∙ c.loop-place.invariant
