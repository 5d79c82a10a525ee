use Rattle.std.proofs.Common.{refl, reverse, arith}
use Rattle.fz_search.specs.Found.{Asked}
use Rattle.fz_search.proofs.Nodes.{closed_so, none_at}
use Rattle.fz_search.proofs.tree.Tree.close.Goals as goal

pub invariant_of-self : goal.invariant_of-self
invariant_of-self c =
    let t = c.self.inside in
    let q : Asked = record { model = t.model.now; filling = t.filling.now; last = t.last } in
    closed_so q t.all t.bounds t.bounds (reverse t.steps.items) t.closed c.args.point (none_at q c.args.point (omega arith) t.bounds (c.in_ok-fails.ensures.never c.if-fails.true)) refl c.self.invariant
