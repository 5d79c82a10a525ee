use Rattle.std.proofs.Common.{◌≡◌, cond, false, pos, subst, sym, true}
use Rattle.fz_bounds.specs.Decided.{Decides, LiesIn}
use Rattle.fz_bounds.proofs.Ranges.{above_none, below_all}
use Rattle.fz_bounds.proofs.range.Range.where_holds.Goals as goal

pub returns-in-Always : goal.returns-in-Always
returns-in-Always c = λ a b f e.
    let holds : b ≡ true = subst (λ o. Decides o b) c.in-Always.is e in
    subst (λ z. LiesIn c.args.self (cond z a (pos 0))) (sym holds) f

pub returns-in-Never : goal.returns-in-Never
returns-in-Never c = λ a b f e.
    let fails : b ≡ false = subst (λ o. Decides o b) c.in-Never.is e in
    subst (λ z. LiesIn c.of.result (cond z a (pos 0))) (sym fails) c.of.ensures

pub returns-in-Open : goal.returns-in-Open
returns-in-Open c = λ a b f _. c.hull.ensures a (pos 0) (cond b a (pos 0)) f c.of-in-Open.ensures (above_none a b) (below_all a b)
