use Rattle.std.proofs.Common.{◌≡◌, ◌∙◌, false, sym, ap}
use Rattle.fz_filling.specs.of_model.States.{state}
use Rattle.fz_explain.specs.Told.{IsSought, is_sought}
use Rattle.fz_explain.proofs.Firsts.{first_at, none_at_all, none_before_next}
use Rattle.fz_explain.proofs.failing.first_point.Goals as goal

pub returns-then-fits-clause-found : goal.returns-then-fits-clause-found
returns-then-fits-clause-found c =
    first_at c.args.model.now (IsSought c.args.filling.now c.args.sought) c.loop-number.number c.points-number-end.result c.loop-number-test.true c.points-number-end.ensures.counted
    (λ p at. ap (is_sought c.args.sought) (sym (c.in_ok-state.ensures.exact p at)) ∙ sym c.fits.ensures ∙ c.if-fits.true) c.loop-number.invariant

pub loop-number-preserved : goal.loop-number-preserved
loop-number-preserved c =
    none_before_next c.args.model.now (IsSought c.args.filling.now c.args.sought) c.loop-number.number c.loop-number.invariant (λ p at is.
    let other : is_sought c.args.sought (state c.args.filling.now p) ≡ false = ap (is_sought c.args.sought) (sym (c.in_ok-state.ensures.exact p at)) ∙ sym c.fits.ensures ∙ c.if-fits.false in
    absurd (cc))

pub returns-clause-none : goal.returns-clause-none
returns-clause-none c = λ none.
    none_at_all c.args.model.now (IsSought c.args.filling.now c.args.sought) c.loop-number.number c.points-number-end.result c.loop-number-test.false c.points-number-end.ensures.counted c.loop-number.invariant
