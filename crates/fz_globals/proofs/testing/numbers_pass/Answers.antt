use Rattle.std.proofs.Common.{◌≡◌, ◌+ℤ◌, pos, get_or, length, w64, to_z, of_z, ap, ◌∙◌}
use Rattle.std.proofs.lemmas.Int.{to_z-of_z}
use Rattle.fz_kernel.specs.Views.{ints}
use Rattle.fz_kernel.proofs.Between.{each_of}
use Rattle.fz_kernel.proofs.Read.{ints_counted}
use Rattle.fz_globals.proofs.Tested.{told_at}
use Rattle.fz_globals.proofs.testing.numbers_pass.Goals as goal

pub returns : goal.returns
returns g c test left told is =
    let o = c.args.first in
    let first = to_z w64 (of_z w64 o) in
    let xs = ints c.args.numbers.now in
    let counted : c.len.result ≡ length xs = ints_counted c.args.numbers.now c.len.result c.len.ensures.counted in
    c.all_between.ensures.exact (λ k. test (first +ℤ pos k) (get_or xs k (pos 0))) (λ k b from below r. told_at _ test told first xs k b r)
    ∙ each_of xs (pos 0) test left is.none is.one first c.len.result counted
    ∙ ap (λ i. left i xs) (to_z-of_z w64 o c.ranges.first)
