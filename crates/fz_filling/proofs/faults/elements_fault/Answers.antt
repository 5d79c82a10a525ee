use Rattle.std.proofs.Common.{option_map, sym, ap, ◌∙◌}
use Rattle.fz_filling.specs.BlockFaults.{literal_fault}
use Rattle.fz_filling.specs.Judged.{refusal}
use Rattle.fz_filling.proofs.Lists.{found_here, none_more, not_some, told_is_some}
use Rattle.fz_filling.proofs.faults.elements_fault.Goals as goal

pub returns-then-is_some : goal.returns-then-is_some
returns-then-is_some c =
    let some = told_is_some refusal _ (literal_fault c.args.kind c.literal-item.result) _ c.literal_fault-fault.ensures (sym c.is_some.ensures ∙ c.if-is_some.true) in
    c.literal_fault-fault.ensures
    ∙ ap (option_map refusal) (sym (found_here (literal_fault c.args.kind) c.args.literals.now c.loop-literal.literal-index c.literal-item.result c.loop-literal-test.true c.literal-item.is c.loop-literal.invariant some))

pub loop-literal-preserved : goal.loop-literal-preserved
loop-literal-preserved c =
    let none = told_is_some refusal _ (literal_fault c.args.kind c.literal-item.result) _ c.literal_fault-fault.ensures (sym c.is_some.ensures ∙ c.if-is_some.false) in
    none_more (literal_fault c.args.kind) c.args.literals.now c.loop-literal.literal-index c.literal-item.result c.loop-literal-test.true c.literal-item.is c.loop-literal.invariant (not_some _ none)
