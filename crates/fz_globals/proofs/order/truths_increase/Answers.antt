use Rattle.std.proofs.Common.{◌≡◌, ◌-◌, not, ◌||◌, true, get_or, length, ◌∙◌, rules}
use Rattle.fz_kernel.specs.Views.{bools}
use Rattle.fz_kernel.proofs.Between.{neighbours_of, read_at}
use Rattle.fz_kernel.proofs.Read.{bools_counted}
use Rattle.fz_globals.proofs.order.truths_increase.Goals as goal

pub returns : goal.returns
returns c =
    let bs = bools c.args.elements.now in
    let counted : c.len.result ≡ length bs = bools_counted c.args.elements.now c.len.result c.len.ensures.counted in
    record { exact = c.all_between.ensures.exact (λ k. not (get_or bs (k - 1) true) || get_or bs k true) (λ k b from below r. search (rules, read_at)) ∙ neighbours_of bs true (λ a b. not a || b) c.len.result counted }
