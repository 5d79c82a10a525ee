use Rattle.std.proofs.Common.{◌≡◌, ℤ, ◌+◌, pos, ◌+ℤ◌, ◌-ℤ◌, false, nat_eq, length, Some, None, FitsSigned, w64, of_z, sym, ap, ◌∙◌, rules}
use Rattle.std.specs.Int.{w128}
use Rattle.std.specs.Option.{option_map_or}
use Rattle.std.proofs.lemmas.Int.{to_z-of_z}
use Rattle.fz_kernel.specs.of_meaning.Relations.{◌=ℤ◌, element_at, as_places}
use Rattle.fz_kernel.specs.Views.{ints}
use Rattle.fz_kernel.proofs.Read.{ints_counted}
use Rattle.fz_kernel.proofs.Passed.{element_found, none_found}
use Rattle.fz_globals.proofs.Led.{as_place, placed_at, placed_counted, shifted}
use Rattle.fz_globals.proofs.tours.leads_to.Goals as goal

pub returns-in-Some : goal.returns-in-Some
returns-in-Some c =
    let go = c.args.go in
    let y = c.int.result in
    let fits_i : FitsSigned w64 c.args.index = c.ranges.index in
    let fits_o : FitsSigned w64 c.args.first = c.ranges.first in
    let fits_g : FitsSigned w64 go = c.ranges.go in
    let fits_y : FitsSigned w64 y = search rules in
    let ys = ints c.args.g.now in
    let place : as_place c.args.first c.args.index ≡ pos (c.in-Some.target + 1) = simp to_z-of_z at c.in-Some.ensures.place in
    let found : element_at (as_places go ys) (as_place c.args.first c.args.index) ≡ Some (as_place go y) =
    element_found (as_places go ys) (as_place c.args.first c.args.index) c.in-Some.target (as_place go y) place (placed_at go ys c.in-Some.target y c.int.ensures.read) in
    let told : c.place_in.result ≡ (y -ℤ go) = simp to_z-of_z at c.place_in.ensures in
    let fits_p : FitsSigned w128 c.args.place = c.ranges.place in
    let same : nat_eq (of_z w128 c.place_in.result) (of_z w128 c.args.place) ≡ (c.place_in.result =ℤ c.args.place) = search rules in
    same ∙ ap (λ d. d =ℤ c.args.place) told ∙ shifted (y -ℤ go) c.args.place
    ∙ sym (ap (λ o. option_map_or (λ (z : ℤ). z =ℤ (c.args.place +ℤ pos 1)) o false) found)

pub returns-in-None : goal.returns-in-None
returns-in-None c =
    let go = c.args.go in
    let fits_i : FitsSigned w64 c.args.index = c.ranges.index in
    let fits_o : FitsSigned w64 c.args.first = c.ranges.first in
    let ys = ints c.args.g.now in
    let counted : c.len.result ≡ length (as_places go ys) = ints_counted c.args.g.now c.len.result c.len.ensures.counted ∙ sym (placed_counted go ys) in
    let none : element_at (as_places go ys) (as_place c.args.first c.args.index) ≡ None =
    none_found (as_places go ys) (as_place c.args.first c.args.index) c.len.result counted (simp to_z-of_z at c.in-None.ensures.none) in
    sym (ap (λ o. option_map_or (λ (z : ℤ). z =ℤ (c.args.place +ℤ pos 1)) o false) none)
