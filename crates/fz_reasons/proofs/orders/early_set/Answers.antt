use Rattle.std.proofs.Common.{◌≡◌, false, slice_get, w64, to_z, of_z, sym, ap, ◌∙◌}
use borrow.Author.Count.{below_more}
use Rattle.std.specs.Option.{option_map_or}
use Rattle.fz_builtins.specs.of_meaning.Relations.{has_only}
use Rattle.fz_builtins.specs.of_kernel.Views.{sets}
use Rattle.fz_reasons.proofs.orders.early_set.Goals as goal

pub loop-place-preserved : goal.loop-place-preserved
loop-place-preserved c =
    let before = to_z w64 (of_z w64 c.args.before) in
    let value = to_z w64 (of_z w64 c.args.value) in
    below_more (λ k. option_map_or (has_only before value) (slice_get (sets c.args.parts.now) k) false ≡ false) c.loop-place.place c.loop-place.invariant
    (ap (λ o. option_map_or (has_only before value) o false) c.set-in-loop-place.ensures.read ∙ sym c.has_only-in-loop-place.ensures.exact ∙ c.if-has_only-2.false)
