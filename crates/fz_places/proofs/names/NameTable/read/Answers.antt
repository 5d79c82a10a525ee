use Rattle.std.proofs.Common.{◌-◌, length, take, drop, option_map, sym, ap, ◌∙◌}
use Rattle.fz_places.specs.Tables.{row_of}
use Rattle.fz_places.proofs.TableReading.{all_of, fault_at, one_more}
use Rattle.fz_places.proofs.names.NameTable.read.Goals as goal

pub returns-in-None-clause-fault : goal.returns-in-None-clause-fault
returns-in-None-clause-fault c =
    let text = c.args.text.now in
    let start = c.loop-start.start in
    let rest = take (length text - start) (drop start text) in
    fault_at text rest start c.part_len-count.result (all_of text start) c.loop-start-test.true c.part_len-count.ensures.part c.part_len-count.ensures.within _ c.loop-start.invariant (sym (ap (option_map row_of) c.in-None.is) ∙ c.row_in.ensures)

pub loop-start-preserved : goal.loop-start-preserved
loop-start-preserved c =
    let text = c.args.text.now in
    let start = c.loop-start.start in
    let rest = take (length text - start) (drop start text) in
    one_more text rest start c.part_len-count.result (all_of text start) c.loop-start-test.true c.part_len-count.ensures.part c.part_len-count.ensures.within _ _ c.in-Some.line c.loop-start.invariant (sym (ap (option_map row_of) c.in-Some.is) ∙ c.row_in.ensures) c.in_ok-push-in-Some.ensures.items
