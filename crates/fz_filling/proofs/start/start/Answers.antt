use Rattle.std.proofs.Common.{refl, sym, ap, subst, take, ◌∙◌}
use Rattle.std.proofs.lemmas.Result.{err_from_is_err_and}
use Rattle.fz_index.specs.of_model.Meaning.{IsPartial, variables_of}
use Rattle.fz_filling.specs.BlockFaults.{printed_fault}
use Rattle.fz_filling.specs.Filling.{printed_scalars, start_from}
use Rattle.fz_stream.specs.of_syntax.View.{bare_items, bare_printed}
use Rattle.fz_index.proofs.of_model.ScanSteps.{take_one_more}
use Rattle.fz_filling.proofs.Lists.{none_more}
use Rattle.fz_filling.proofs.Refusing.{tells_stop}
use Rattle.fz_index.proofs.of_model.Partials.{nothing_fits}
use Rattle.fz_filling.proofs.Starting.{start_item_more, starts_with_nothing}
use Rattle.fz_filling.proofs.start.start.Goals as goal

pub loop-item-init : goal.loop-item-init
loop-item-init c = record {
  started = c.requires.empty ∙ starts_with_nothing c.args.model.now;
  kinds = subst (IsPartial c.args.model.now) (sym c.requires.empty) (nothing_fits (variables_of c.args.model.now));
  clean = refl;
}

pub returns-in_err-set_item-clause-told : goal.returns-in_err-set_item-clause-told
returns-in_err-set_item-clause-told c =
    let p = err_from_is_err_and c.from_residual.result c.from_residual.ensures.1 in
    rw (p.1, p.2) (tells_stop (printed_fault c.args.model.now) c.args.items.now c.loop-item.item-index c.item-item.result _ c.loop-item-test.true c.item-item.is c.loop-item.invariant.clean c.in_err-set_item.ensures.told)

pub loop-item-preserved : goal.loop-item-preserved
loop-item-preserved c =
    let m = c.args.model.now in
    let before = bare_items (take c.loop-item.item-index c.args.items.now) in
    let more = take_one_more bare_printed c.args.items.now c.loop-item.item-index c.item-item.result c.loop-item-test.true c.item-item.is in
    record {
      started = start_item_more m before (bare_printed c.item-item.result) c.loop-item.partial c.set_item.new.partial c.loop-item.invariant.started c.in_ok-set_item.ensures.given
          ∙ ap (λ xs. start_from (printed_scalars m xs) 0 (variables_of m)) (sym more);
      kinds = c.in_ok-set_item.ensures.kinds;
      clean = none_more (printed_fault m) c.args.items.now c.loop-item.item-index c.item-item.result c.loop-item-test.true c.item-item.is c.loop-item.invariant.clean c.in_ok-set_item.ensures.clean;
    }
