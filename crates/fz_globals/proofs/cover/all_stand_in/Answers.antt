use Rattle.std.proofs.Common.{refl, rules}
use Rattle.std.specs.List.{list_all}
use Rattle.fz_kernel.specs.of_meaning.Relations.{is_among}
use Rattle.fz_globals.proofs.cover.all_stand_in.Goals as goal

pub returns : goal.returns
returns c =
    c.numbers_pass.ensures (λ i x. is_among x c.args.sorted.now) (λ i xs. list_all (λ x. is_among x c.args.sorted.now) xs) (λ i x b fits_i fits_x r. search rules)
    record { none = λ i. refl; one = λ i x xs. refl }
