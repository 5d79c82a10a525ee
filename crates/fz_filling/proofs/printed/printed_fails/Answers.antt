use Rattle.std.proofs.Common.{sym, ◌∙◌}
use Rattle.fz_stream.specs.of_syntax.View.{bare_printed}
use Rattle.fz_filling.specs.BlockFaults.{ItemFits}
use Rattle.fz_filling.specs.Verdict.{printed_fails}
use Rattle.fz_filling.specs.View.{fault_view}
use Rattle.fz_index.proofs.of_model.ScanSteps.{first_more}
use Rattle.fz_filling.proofs.Lists.{first_found, mapped_at, not_some, seen_is_some}
use Rattle.fz_filling.proofs.printed.printed_fails.Goals as goal

pub item_fails-requires : goal.item_fails-requires
item_fails-requires c = record { fits = mapped_at (ItemFits c.args.model.now) bare_printed c.args.items.now c.loop-item.item-index c.item-item.result c.loop-item-test.true c.item-item.is c.requires.fits }

pub returns-then-is_some : goal.returns-then-is_some
returns-then-is_some c =
    c.in_ok-fault.ensures ∙ sym (first_found (printed_fails c.args.model.now c.args.partial.now) bare_printed c.args.items.now c.loop-item.item-index c.item-item.result c.loop-item-test.true c.item-item.is c.loop-item.invariant (seen_is_some fault_view _ _ _ c.in_ok-fault.ensures (sym c.is_some.ensures ∙ c.if-is_some.true)))

pub loop-item-preserved : goal.loop-item-preserved
loop-item-preserved c =
    first_more (printed_fails c.args.model.now c.args.partial.now) bare_printed c.args.items.now c.loop-item.item-index c.item-item.result c.loop-item-test.true c.item-item.is c.loop-item.invariant (not_some _ (seen_is_some fault_view _ _ _ c.in_ok-fault.ensures (sym c.is_some.ensures ∙ c.if-is_some.false)))
