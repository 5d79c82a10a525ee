use Rattle.std.proofs.Common.{◌∙◌, ap}
use Rattle.fz_syntax.specs.View.{bare_items}
use Rattle.fz_cutting.specs.Short.{are_declared}
use Rattle.fz_cutting.proofs.Decided.{items_decide}
use Rattle.fz_cutting.proofs.are_items.Goals as goal

pub returns-in-Some : goal.returns-in-Some
returns-in-Some c =
    let m = c.args.model.now in
    items_decide c.args.limits m c.args.text.now (bare_items c.in-Some.items.items) (rw c.in-Some.is at c.in_ok-items.ensures)
    c.are_declared.result (c.are_declared.ensures ∙ ap (λ items. are_declared m (bare_items items)) c.deref.ensures.value)
