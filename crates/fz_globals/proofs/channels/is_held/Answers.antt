use Rattle.std.proofs.Common.{◌≡◌, ◌+◌, pos, false, length, Some, None, FitsSigned, w64, sym, ap, ◌∙◌}
use Rattle.std.specs.Int.{w128}
use Rattle.std.specs.Option.{option_map_or}
use Rattle.std.specs.FinSet.{contains}
use Rattle.std.proofs.lemmas.Int.{to_z-of_z}
use Rattle.fz_kernel.specs.of_meaning.of_base.Sets.{NumberSet}
use Rattle.fz_kernel.specs.of_meaning.Relations.{element_at}
use Rattle.fz_kernel.specs.Views.{sets}
use Rattle.fz_kernel.proofs.Read.{sets_counted}
use Rattle.fz_kernel.proofs.Passed.{element_found, none_found}
use Rattle.fz_globals.proofs.Led.{as_place}
use Rattle.fz_globals.proofs.channels.is_held.Goals as goal

pub returns-in-Some : goal.returns-in-Some
returns-in-Some c =
    let so = c.args.first_part in
    let x = c.args.number in
    let ss = sets c.args.parts.now in
    let fits_so : FitsSigned w64 so = c.ranges.first_part in
    let fits_x : FitsSigned w64 x = c.ranges.number in
    let fits_i : FitsSigned w128 c.args.index = c.ranges.index in
    let place : as_place so x ≡ pos (c.in-Some.part + 1) = simp to_z-of_z at c.in-Some.ensures.place in
    let found : element_at ss (as_place so x) ≡ Some c.set.result.now = element_found ss (as_place so x) c.in-Some.part c.set.result.now place c.set.ensures.read in
    let told : c.has.result ≡ contains c.set.result.now c.args.index = simp to_z-of_z at c.has.ensures in
    record { exact = told ∙ sym (ap (λ o. option_map_or (λ (s : NumberSet). contains s c.args.index) o false) found) }

pub returns-in-None : goal.returns-in-None
returns-in-None c =
    let so = c.args.first_part in
    let x = c.args.number in
    let ss = sets c.args.parts.now in
    let fits_so : FitsSigned w64 so = c.ranges.first_part in
    let fits_x : FitsSigned w64 x = c.ranges.number in
    let counted : c.len.result ≡ length ss = sets_counted c.args.parts.now c.len.result c.len.ensures.counted in
    let none : element_at ss (as_place so x) ≡ None = none_found ss (as_place so x) c.len.result counted (simp to_z-of_z at c.in-None.ensures.none) in
    record { exact = sym (ap (λ o. option_map_or (λ (s : NumberSet). contains s c.args.index) o false) none) }
