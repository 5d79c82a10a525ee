use Rattle.std.proofs.Common.{rules, ◌<◌, drop, length, sym, arith, ◌∙◌}
use Rattle.std.proofs.lemmas.List.{take_rest}
use Rattle.fz_tree.proofs.Fronts.{word_front}
use Rattle.fz_tree.proofs.Next.{outside_within, outside_fault, nothing_fault}
use Rattle.fz_tree.proofs.lexer.Lexer.read.Goals as goal

pub take-requires-clause-front : goal.take-requires-clause-front
take-requires-clause-front c =
    let bytes = drop c.gap_end-start.result c.args.self.now.source.now in
    let begins = rw take_rest at (sym c.is_word_start.ensures ∙ c.if-is_word_start.true) in
    let len = rw take_rest at c.word_len.ensures.value in
    (word_front bytes c.word_len.result begins len, tt)

pub overflow_add-result : goal.overflow_add-result
overflow_add-result c =
    let old = c.args.self.now in
    let gap = c.gap_end-start.ensures in
    let f = rw take_rest at c.in-OutsideLimit.ensures in
    let w = outside_within old.source.now old.place c.gap_end-start.result gap.within.1 gap.gap c.in-OutsideLimit.len f in
    search rules

pub returns-in-OutsideLimit-clause-fault : goal.returns-in-OutsideLimit-clause-fault
returns-in-OutsideLimit-clause-fault c =
    let old = c.args.self.now in
    let gap = c.gap_end-start.ensures in
    let f = rw take_rest at c.in-OutsideLimit.ensures in
    outside_fault old.source.now old.place c.gap_end-start.result gap.within.1 gap.gap c.in-OutsideLimit.len f

pub returns-in-Nothing-clause-fault : goal.returns-in-Nothing-clause-fault
returns-in-Nothing-clause-fault c =
    let old = c.args.self.now in
    let gap = c.gap_end-start.ensures in
    let more : c.gap_end-start.result < length old.source.now = omega arith in
    let stops = gap.stops more in
    nothing_fault old.source.now old.place c.gap_end-start.result gap.within.1 gap.gap (rw take_rest at c.in-Nothing.ensures) more stops.0 stops.1
