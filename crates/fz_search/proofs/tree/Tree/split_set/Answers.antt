use Rattle.std.proofs.Common.{◌∙◌, IfSome, None, Option, ap, subst, arith}
use Rattle.fz_bounds.specs.Bounds.{IsInDomain, LiesIn}
use Rattle.fz_bounds.specs.of_model.Meaning.{value_at, whole}
use Rattle.fz_bounds.specs.of_model.Shown.{point_view}
use Rattle.fz_bounds.specs.of_model.of_base.declared.value.Value.{Value}
use Rattle.fz_bounds.proofs.Beginnings.{in_domain}
use Rattle.fz_search.specs.Found.{Asked}
use Rattle.fz_search.specs.Subsets.{IsAmong}
use Rattle.fz_search.proofs.Nodes.{none_back, stepped_so}
use Rattle.fz_search.proofs.tree.Tree.split_set.Goals as goal

pub invariant_of-self-2 : goal.invariant_of-self-2
invariant_of-self-2 c =
    let t = c.self.inside in
    let q : Asked = record { model = t.model.now; filling = t.filling.now; last = t.last } in
    let n = c.in-Domain.variable in
    let x = c.in-Domain.declared.now in
    stepped_so q t.all t.bounds c.enter.new.bounds t.steps.items c.push.new.self.items t.closed _
    (λ A sought inside.
    let lies = in_domain t.model.now A c.args.point (point_view c.point_parts.result) sought.0 c.point_parts.ensures.parts in
    let among = subst (λ r. IfSome r (λ s. (o : Option Value) → LiesIn x.kind x.domain o → IsAmong s o)) c.in-Some.is c.in_ok-subsets.ensures in
    c.in_ok-branch.ensures.parted A (inside, among (value_at (whole A) n) (subst (IsInDomain A) (ap point_view c.in-Domain.is) lies)))
    (c.in_ok-branch.ensures.back None ∙ none_back t.bounds n (c.is_unknown.ensures.none c.if-not-is_unknown.false))
    c.in_ok-push.ensures.items c.self.invariant
