use Rattle.std.proofs.Common.{◌≡◌, ◌≤◌, ◌<◌, ◌∙◌, ◌++◌, [], ap, sym, append-nil, rules}
use Rattle.fz_check.specs.Report.{claims_by, claims_past, event_line, text_of}
use Rattle.fz_check.proofs.EventLemmas.{claims_next, comes_by, comes_later, none_first}
use Rattle.fz_check.proofs.report.push_claims.Goals as goal

pub returns-then-after-first-clause-added : goal.returns-then-after-first-clause-added
returns-then-after-first-clause-added c =
    let split = c.in-Some.ensures.cases.0 in
    let later : c.args.after < c.in-Some.first.now.after = search rules in
    sym (append-nil c.loop-first.text.items)
    ∙ ap (λ es. c.loop-first.text.items ++ text_of event_line es) (sym (ap (claims_by c.args.after) split ∙ (comes_later c.args.after c.in-Some.first.now c.in-Some.others.now later).0))
    ∙ c.loop-first.invariant.0

pub returns-then-after-first-clause-rest : goal.returns-then-after-first-clause-rest
returns-then-after-first-clause-rest c =
    let split = c.in-Some.ensures.cases.0 in
    let later : c.args.after < c.in-Some.first.now.after = search rules in
    split ∙ sym (ap (claims_past c.args.after) split ∙ (comes_later c.args.after c.in-Some.first.now c.in-Some.others.now later).1) ∙ c.loop-first.invariant.1

pub loop-first-preserved : goal.loop-first-preserved
loop-first-preserved c =
    let split = c.in-Some.ensures.cases.0 in
    let by : c.in-Some.first.now.after ≤ c.args.after = search rules in (
      claims_next c.args.after c.in-Some.first.now c.loop-first.rest.now c.in-Some.others.now c.loop-first.text.items _ _ split by c.in_ok-push_claim.ensures c.loop-first.invariant.0,
      sym (ap (claims_past c.args.after) split ∙ (comes_by c.args.after c.in-Some.first.now c.in-Some.others.now by).1) ∙ c.loop-first.invariant.1,
    )

pub returns-clause-added : goal.returns-clause-added
returns-clause-added c =
    let none : c.loop-first.rest.now ≡ [] = none_first c.loop-first.rest.now c.split_first.result c.in_default.not-Some c.split_first.ensures.variant.1 in
    sym (append-nil c.loop-first.text.items)
    ∙ ap (λ cs. c.loop-first.text.items ++ text_of event_line (claims_by c.args.after cs)) (sym none)
    ∙ c.loop-first.invariant.0

pub returns-clause-rest : goal.returns-clause-rest
returns-clause-rest c =
    let none : c.loop-first.rest.now ≡ [] = none_first c.loop-first.rest.now c.split_first.result c.in_default.not-Some c.split_first.ensures.variant.1 in
    none ∙ sym (ap (claims_past c.args.after) none) ∙ c.loop-first.invariant.1
