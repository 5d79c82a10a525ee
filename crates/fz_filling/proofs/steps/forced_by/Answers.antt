use Rattle.std.proofs.Common.{◌≡◌, IfOk, IfSome, IsNone, Some, slice_get, sym, subst}
use Rattle.fz_index.specs.of_model.Meaning.{Point, points}
use Rattle.fz_filling.specs.Filling.{IsGivenBy}
use Rattle.fz_filling.specs.Stepping.{GivesNoneAt}
use Rattle.fz_filling.proofs.steps.forced_by.Goals as goal

pub returns-in-Off-clause-given : goal.returns-in-Off-clause-given
returns-in-Off-clause-given c =
    subst (λ b. IfOk c.forced.result (λ o. IfSome o (λ r. (p : Point) → slice_get (points c.args.model.now) c.args.point ≡ Some p → IsGivenBy b c.args.model.now c.args.partial.now p r.0 r.1)))
    (sym c.in-Off.is) c.forced.ensures.given

pub returns-in-Off-clause-nothing : goal.returns-in-Off-clause-nothing
returns-in-Off-clause-nothing c =
    subst (λ b. IfOk c.forced.result (λ o. IsNone o → GivesNoneAt b c.args.model.now c.args.partial.now c.args.point))
    (sym c.in-Off.is) c.forced.ensures.nothing

pub returns-in-On-clause-given : goal.returns-in-On-clause-given
returns-in-On-clause-given c =
    subst (λ b. IfOk c.forced_any.result (λ o. IfSome o (λ r. (p : Point) → slice_get (points c.args.model.now) c.args.point ≡ Some p → IsGivenBy b c.args.model.now c.args.partial.now p r.0 r.1)))
    (sym c.in-On.is) c.forced_any.ensures.given

pub returns-in-On-clause-nothing : goal.returns-in-On-clause-nothing
returns-in-On-clause-nothing c =
    subst (λ b. IfOk c.forced_any.result (λ o. IsNone o → GivesNoneAt b c.args.model.now c.args.partial.now c.args.point))
    (sym c.in-On.is) c.forced_any.ensures.nothing
