use Rattle.std.proofs.Common.{map, ap, sym, ◌∙◌, subst}
use Rattle.std.specs.List.{AllByRecursion}
use Rattle.std.proofs.lemmas.Result.{IfErr-weaker, IfOk-weaker}
use Rattle.fz_filling.specs.of_stream.Found.{HasPlaces, IsReadAs, block_of, claims_in}
use Rattle.fz_check.specs.Claims.{standard_options}
use Rattle.fz_check.specs.View.{answer_view, report_events}
use Rattle.fz_check.proofs.Refusals.{block_refused}
use Rattle.fz_check.proofs.ReportLemmas.{accepted_solutions, reported}
use Rattle.fz_check.proofs.checking.check.Goals as goal

pub returns-clause-accepted : goal.returns-clause-accepted
returns-clause-accepted c =
    let read = subst (λ bs. IsReadAs c.args.stream.now (map block_of bs) c.in-Ok-read_stream.found.claims.items) (sym c.deref.ensures.value) c.in-Ok-read_stream.ensures.read in
    IfOk-weaker c.judge_blocks.result _ _ (λ r report count is.
    accepted_solutions standard_options c.args.model.now c.in-Ok.loaded c.args.stream.now (report_events r) (answer_view r.answer) c.in-Ok.ensures.loaded (report c.args.stream.now read) count (ap answer_view is))
    c.judge_blocks.ensures.report

pub returns-clause-report : goal.returns-clause-report
returns-clause-report c =
    let read = subst (λ bs. IsReadAs c.args.stream.now (map block_of bs) c.in-Ok-read_stream.found.claims.items) (sym c.deref.ensures.value) c.in-Ok-read_stream.ensures.read in
    IfOk-weaker c.judge_blocks.result _ _ (λ r report.
    reported standard_options c.args.model.now c.in-Ok.loaded c.args.stream.now (report_events r) (answer_view r.answer) c.in-Ok.ensures.loaded (report c.args.stream.now read))
    c.judge_blocks.ensures.report

pub returns-clause-claims : goal.returns-clause-claims
returns-clause-claims c =
    let read = c.in-Ok-read_stream.ensures.read in
    IfOk-weaker c.judge_blocks.result _ _ (λ r same parts text. same ∙ read.claims_are ∙ ap (claims_in 0) (sym (read.only parts text)))
    c.judge_blocks.ensures.claims

pub returns-clause-refused : goal.returns-clause-refused
returns-clause-refused c =
    let read = subst (λ bs. IsReadAs c.args.stream.now (map block_of bs) c.in-Ok-read_stream.found.claims.items) (sym c.deref.ensures.value) c.in-Ok-read_stream.ensures.read in
    let places = subst (AllByRecursion HasPlaces) (sym c.deref.ensures.value) c.in-Ok-read_stream.ensures.places in
    IfErr-weaker c.judge_blocks.result _ _ (block_refused c.args.model.now c.args.stream.now c.in-Ok.loaded c.deref.result.now _ c.in-Ok.ensures.loaded c.in-Ok-read_stream.ensures.short read places)
    c.judge_blocks.ensures.refused
