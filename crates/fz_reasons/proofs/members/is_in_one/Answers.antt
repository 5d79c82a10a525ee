use Rattle.std.proofs.Common.{◌≡◌, true, drop, FitsSigned, w64, to_z, of_z, sym, ◌∙◌}
use Rattle.std.specs.FinSet.{contains}
use Rattle.std.specs.List.{list_any}
use Rattle.std.proofs.lemmas.Int.{to_z-of_z}
use Rattle.fz_builtins.specs.of_meaning.of_base.Sets.{NumberSet}
use Rattle.fz_builtins.specs.of_kernel.Views.{sets}
use Rattle.fz_builtins.proofs.of_globals.Each.{one_does, not_yet}
use Rattle.fz_reasons.proofs.members.is_in_one.Goals as goal

pub returns-then-contains : goal.returns-then-contains
returns-then-contains c =
    let n = c.args.number in
    let ss = sets c.args.parts.now in
    let i = c.loop-place.place in
    let fits : FitsSigned w64 n = c.ranges.number in
    let so_far : list_any (λ (s : NumberSet). contains s n) ss ≡ list_any (λ (s : NumberSet). contains s n) (drop i ss) = simp to_z-of_z at c.loop-place.invariant in
    let has : contains c.set.result.now n ≡ true = simp to_z-of_z at (sym c.contains.ensures ∙ c.if-contains.true) in
    one_does (λ s. contains s n) ss i c.set.result.now c.set.ensures.read so_far has

pub loop-place-preserved : goal.loop-place-preserved
loop-place-preserved c =
    not_yet (λ s. contains s (to_z w64 (of_z w64 c.args.number))) (sets c.args.parts.now) c.loop-place.place c.set.result.now c.set.ensures.read c.loop-place.invariant (sym c.contains.ensures ∙ c.if-contains.false)
