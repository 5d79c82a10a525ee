use Rattle.std.proofs.Common.{◌≡◌, true, get_or, length, ◌∙◌, rules}
use Rattle.fz_kernel.specs.of_meaning.Relations.{◌=ᴮ◌}
use Rattle.fz_kernel.specs.Views.{bools}
use Rattle.fz_kernel.proofs.Between.{read_at, some_of}
use Rattle.fz_kernel.proofs.Read.{bools_counted}
use Rattle.fz_globals.proofs.Compared.{same_truths}
use Rattle.fz_globals.proofs.counts.is_truth_listed.Goals as goal

pub returns : goal.returns
returns c =
    let bs = bools c.args.elements.now in
    let t = c.args.truth in
    let counted : c.len.result ≡ length bs = bools_counted c.args.elements.now c.len.result c.len.ensures.counted in
    record { exact = c.any_between.ensures.exact (λ k. get_or bs k true =ᴮ t) (λ k b from below r. search (rules, read_at, same_truths)) ∙ some_of bs true (λ x. x =ᴮ t) 0 c.len.result counted }
