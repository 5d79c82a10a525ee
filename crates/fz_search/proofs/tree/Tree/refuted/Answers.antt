use Rattle.std.proofs.Common.{◌∙◌, subst, sym, arith}
use Rattle.std.proofs.lemmas.Bool.Decides.{nat_tests}
use Rattle.fz_search.specs.Found.{Asked, IsRefutedAt}
use Rattle.fz_search.proofs.Nodes.{none_so}
use Rattle.fz_search.proofs.tree.Tree.refuted.Goals as goal

pub returns-then-point-points : goal.returns-then-point-points
returns-then-point-points c =
    let t = c.self.inside in
    let q : Asked = record { model = t.model.now; filling = t.filling.now; last = t.last } in
    subst (λ q. IsRefutedAt q c.in_ok-point.point) c.self.view_is
    (omega arith, none_so q t.all t.bounds t.steps.items t.closed c.in_ok-point.point c.if-self.true (grind (arith, nat_tests, sym c.is_empty.ensures ∙ c.if-is_empty.true, t.steps.ok.0)) c.in_ok-point.was c.self.invariant)
