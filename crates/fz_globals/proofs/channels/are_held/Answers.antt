use Rattle.std.proofs.Common.{w64, refl, ap, ◌∙◌, rules}
use Rattle.std.proofs.lemmas.Int.{to_z-of_z}
use Rattle.fz_kernel.specs.Views.{ints, sets}
use Rattle.fz_globals.specs.Held.{are_held, is_held}
use Rattle.fz_globals.proofs.channels.are_held.Goals as goal

pub returns : goal.returns
returns c =
    let so = c.args.first_part in
    let ss = sets c.args.parts.now in
    c.numbers_pass.ensures (λ i x. is_held i x ss so) (λ i xs. are_held i xs ss so) (λ i x b fits_i fits_x r. search rules)
    record { none = λ i. refl; one = λ i x xs. refl }
    ∙ ap (λ i. are_held i (ints c.args.numbers.now) ss so) (to_z-of_z w64 c.args.first c.ranges.first)
