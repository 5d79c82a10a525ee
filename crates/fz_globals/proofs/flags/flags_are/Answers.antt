use Rattle.std.proofs.Common.{◌≡◌, ◌+ℤ◌, pos, true, get_or, length, refl, ◌∙◌, rules}
use Rattle.std.specs.FinSet.{contains}
use Rattle.fz_kernel.specs.of_meaning.Relations.{◌=ᴮ◌, flags_are}
use Rattle.fz_kernel.specs.Views.{bools}
use Rattle.fz_kernel.proofs.Between.{each_of, read_at}
use Rattle.fz_kernel.proofs.Read.{bools_counted}
use Rattle.fz_globals.proofs.Compared.{same_truths}
use Rattle.fz_globals.proofs.flags.flags_are.Goals as goal

pub returns : goal.returns
returns c =
    let o = c.args.first in
    let s = c.args.set.now in
    let bs = bools c.args.flags.now in
    let counted : c.len.result ≡ length bs = bools_counted c.args.flags.now c.len.result c.len.ensures.counted in
    c.all_between.ensures.exact (λ k. get_or bs k true =ᴮ contains s (o +ℤ pos k)) (λ k b from below r. search (rules, read_at, same_truths))
    ∙ each_of bs true (λ i b. b =ᴮ contains s i) (λ i l. flags_are i l s) (λ _. refl) (λ _ b l. refl) o c.len.result counted
