use Rattle.std.proofs.Common.{◌≡◌, true, get_or, length, ◌∙◌, rules}
use Rattle.fz_kernel.specs.Views.{bools}
use Rattle.fz_kernel.proofs.Between.{every_of, read_at}
use Rattle.fz_kernel.proofs.Read.{bools_counted}
use Rattle.fz_kernel.proofs.arrays.truths.all_true.Goals as goal

pub returns : goal.returns
returns c =
    let bs = bools c.args.elements.now in
    let counted : c.len.result ≡ length bs = bools_counted c.args.elements.now c.len.result c.len.ensures.counted in
    record { exact = c.all_between.ensures.exact (λ k. get_or bs k true) (λ k b from below r. search (rules, read_at)) ∙ every_of bs true (λ x. x) c.len.result counted }
