use Rattle.std.proofs.Common.{◌≡◌, None, option_map, sym, ap, ◌∙◌}
use Rattle.std.specs.Option.{option_or}
use Rattle.fz_search.specs.of_model.Meaning.{first_some, objective, points}
use Rattle.fz_filling.specs.Verdict.{objective_fails, point_fails, point_undecided, printed_fails, verdict_by}
use Rattle.fz_filling.specs.of_syntax.View.{bare_items}
use Rattle.fz_filling.specs.View.{fault_view}
use Rattle.fz_filling.specs.Working.{with_objective}
use Rattle.fz_filling.proofs.Verdicts.{with_objective_is}
use Rattle.fz_check.proofs.judge.verdict_under.Goals as goal

pub returns-clause-judged : goal.returns-clause-judged
returns-clause-judged c =
    let m = c.args.model.now in
    let K = c.args.partial.now in
    let failed = first_some (point_fails K) (points m) in
    let undecided = first_some (point_undecided m K) (points m) in
    let worse = objective_fails m.aim c.args.before (objective m K) in
    let none : first_some (printed_fails m K) (bare_items c.args.block.now.items.items) ≡ None =
    ap (λ xs. first_some (printed_fails m K) (bare_items xs)) (sym c.deref.ensures.value) ∙ sym c.in_ok-fault.ensures ∙ ap (option_map fault_view) c.in_default.is in
    c.with_objective-verdict.ensures ∙ ap (λ v. with_objective v (option_map fault_view c.objective_fails.result)) c.in_ok-points.ensures
    ∙ ap (with_objective (verdict_by failed undecided)) (c.objective_fails.ensures ∙ (λ i. objective_fails (c.goal.ensures.asked i) c.args.before (c.objective-now.ensures i)))
    ∙ with_objective_is failed worse undecided ∙ ap (λ o. verdict_by (option_or o (option_or failed worse)) undecided) (sym none)
