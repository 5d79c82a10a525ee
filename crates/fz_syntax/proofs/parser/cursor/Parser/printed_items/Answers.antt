use Rattle.std.proofs.Common.{ap, map, refl}
use Rattle.std.proofs.lemmas.Result.{err_from_is_err_and}
use Rattle.fz_syntax.specs.Placed.{placed_printed}
use Rattle.fz_syntax.proofs.Walks.{walk_zero, walk_more}
use Rattle.fz_tree.specs.View.{bare_printed}
use Rattle.fz_syntax.specs.Reading.{is_name, any_number}
use Rattle.fz_syntax.specs.ReadingItems.{printed_at}
use Rattle.fz_syntax.proofs.Running.{gathers_begin, gathers_on, gathers_stop, gathers_all, grown}
use Rattle.fz_syntax.proofs.PrintedLaws.{printed_law}
use Rattle.fz_syntax.proofs.ListLaws.{unbounded}
use Rattle.fz_syntax.proofs.ExprLaws.{same}
use Rattle.fz_syntax.proofs.parser.cursor.Parser.printed_items.Goals as goal

pub loop-self-init : goal.loop-self-init
loop-self-init c = record {
  gathers = gathers_begin is_name _ _ _ (ap (map bare_printed) c.new-items.ensures.items);
  walked = walk_zero placed_printed _ c.new-items.ensures.items;
}

pub returns-in_err-item-clause-read : goal.returns-in_err-item-clause-read
returns-in_err-item-clause-read c =
    let p = err_from_is_err_and c.from_residual.result c.from_residual.ensures.1 in
    rw (p.1, p.2) (gathers_stop c.in_err-item.field-0.0 is_name (any_number (printed_at c.args.limits.now)) _ _ _ _ refl _ c.loop-self-test.true c.begins_name.ensures c.loop-self.invariant.gathers c.in_err-item.ensures.read)

pub loop-self-preserved : goal.loop-self-preserved
loop-self-preserved c = record {
  gathers = gathers_on is_name (any_number (printed_at c.args.limits.now)) (unbounded (printed_law _ _ (same c.args.limits.now)) 0).shrinks _ _ _ _ _ _ _ refl (grown bare_printed _ _ _ c.in_ok-push.ensures.items) _ c.loop-self-test.true c.begins_name.ensures c.in_ok-item.ensures.read c.loop-self.invariant.gathers;
  walked = walk_more placed_printed _ _ _ c.in_ok-push.ensures.items c.loop-self.invariant.walked c.in_ok-item.ensures.walked;
}

pub loop-self-smaller : goal.loop-self-smaller
loop-self-smaller c = (unbounded (printed_law _ _ (same c.args.limits.now)) 0).shrinks 0 _ _ _ c.in_ok-item.ensures.read

pub returns-clause-read : goal.returns-clause-read
returns-clause-read c = (gathers_all is_name (any_number (printed_at c.args.limits.now)) _ _ _ _ c.loop-self-test.false c.begins_name.ensures c.loop-self.invariant.gathers)
