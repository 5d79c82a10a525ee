use Rattle.std.proofs.Common.{◌++◌, ◌∙◌, refl, sym, subst}
use Rattle.std.specs.Prelude.{Any}
use Rattle.fz_cutting.specs.Short.{AreItems, endings}
use Rattle.fz_cutting.proofs.Lists.{from_any, has_at, has_mapped, mapped_has, to_any}
use Rattle.fz_cutting.proofs.has_ending.Goals as goal

pub loop-ending-init : goal.loop-ending-init
loop-ending-init c any =
    mapped_has (λ e. AreItems c.args.limits c.args.model.now (c.args.text.now ++ e)) (λ e. e.now) c.endings-ending-items.result.now
    (from_any (λ e. AreItems c.args.limits c.args.model.now (c.args.text.now ++ e)) _ (subst (Any (λ e. AreItems c.args.limits c.args.model.now (c.args.text.now ++ e))) (sym c.endings-ending-items.ensures) any))

pub returns-then-branch : goal.returns-then-branch
returns-then-branch c =
    let is = subst (AreItems c.args.limits c.args.model.now) (c.deref.ensures.value ∙ c.in_ok-whole.ensures) (c.in_ok-are_items.ensures.0 c.if-branch.true) in (
      (λ t. subst (Any (λ e. AreItems c.args.limits c.args.model.now (c.args.text.now ++ e))) c.endings-ending-items.ensures
          (to_any (λ e. AreItems c.args.limits c.args.model.now (c.args.text.now ++ e)) _
          (has_mapped (λ e. AreItems c.args.limits c.args.model.now (c.args.text.now ++ e)) (λ e. e.now) c.endings-ending-items.result.now
          (has_at (λ e. AreItems c.args.limits c.args.model.now (c.args.text.now ++ e.now)) c.endings-ending-items.result.now c.loop-ending.ending-index _ c.loop-ending-test.true is)))),
      (λ any. refl),
    )
