use Rattle.std.proofs.Common.{sym}
use Rattle.fz_model.proofs.Gaps.{gone}
use Rattle.fz_model.proofs.Sides.{left_forced, right_forced}
use Rattle.fz_model.proofs.step.by_definition.Goals as goal

pub returns-in_ok-copy-in-Var : goal.returns-in_ok-copy-in-Var
returns-in_ok-copy-in-Var c = λ x.
    rw c.in-Var.is
    (right_forced c.args.model.now c.args.partial.now c.requires.fits x c.args.number c.in-Var.other c.in-Some.value.now (sym c.in-Some.ensures.looked_up)
    (gone c.get-given.result _ c.if-is_some.ensures c.get-given.ensures.looked_up) c.fitting.result
    (rw c.in_ok-copy-in-Var.ensures at c.fitting.ensures))

pub returns-in_ok-copy-in-Some-value : goal.returns-in_ok-copy-in-Some-value
returns-in_ok-copy-in-Some-value c = λ x.
    left_forced c.args.model.now c.args.partial.now c.requires.fits x c.args.number c.args.side.now c.in-Some-value.value.now
    (sym c.in-None.ensures.looked_up) (sym c.in-Some-value.ensures.valued) c.fitting-in-Some-value.result
    (rw c.in_ok-copy-in-Some-value.ensures at c.fitting-in-Some-value.ensures)
