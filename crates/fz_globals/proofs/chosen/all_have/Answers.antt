use Rattle.std.proofs.Common.{◌≡◌, ◌+ℤ◌, pos, not, ◌||◌, get_or, length, refl, ◌∙◌, rules}
use Rattle.std.specs.List.{list_all}
use Rattle.std.specs.FinSet.{contains, empty}
use Rattle.fz_kernel.specs.of_meaning.Relations.{chosen}
use Rattle.fz_kernel.specs.Views.{sets}
use Rattle.fz_kernel.proofs.Between.{each_of, read_at}
use Rattle.fz_kernel.proofs.Read.{sets_counted}
use Rattle.fz_globals.proofs.Choosing.{one_passes}
use Rattle.fz_globals.proofs.chosen.all_have.Goals as goal

pub returns : goal.returns
returns c =
    let n = c.args.number in
    let o = c.args.first in
    let s = c.args.indices.now in
    let ss = sets c.args.parts.now in
    let counted : c.len.result ≡ length ss = sets_counted c.args.parts.now c.len.result c.len.ensures.counted in
    c.all_between.ensures.exact (λ k. not (contains s (o +ℤ pos k)) || contains (get_or ss k empty) n) (λ k b from below r. search (rules, read_at))
    ∙ each_of ss empty (λ i t. not (contains s i) || contains t n) (λ i l. list_all (λ t. contains t n) (chosen i l s)) (λ _. refl) (λ i t l. one_passes (λ u. contains u n) i t l s) o c.len.result counted
