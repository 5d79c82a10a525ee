use Rattle.std.proofs.Common.{reverse, subst, arith}
use Rattle.fz_bounds.specs.Ends.{IsTightened}
use Rattle.fz_search.specs.Found.{Asked}
use Rattle.fz_search.proofs.Nodes.{closed_so, kept_at, narrowed_so, none_at}
use Rattle.fz_search.proofs.tree.Tree.tighten.Goals as goal

pub invariant_of-self-in-Narrowed : goal.invariant_of-self-in-Narrowed
invariant_of-self-in-Narrowed c =
    let t = c.self.inside in
    let q : Asked = record { model = t.model.now; filling = t.filling.now; last = t.last } in
    let told = subst (IsTightened t.model.now c.args.point c.args.left.variable t.bounds c.tighten.new.self) c.in-Narrowed.is c.in_ok-told.ensures.told in
    narrowed_so q t.all t.bounds c.tighten.new.self t.steps.items c.push.new.self.items t.closed _ (kept_at q c.args.point (omega arith) t.bounds c.tighten.new.self told.0) told.1 c.in_ok-push-in-Narrowed.ensures.items c.self.invariant

pub invariant_of-self-in-Empty : goal.invariant_of-self-in-Empty
invariant_of-self-in-Empty c =
    let t = c.self.inside in
    let q : Asked = record { model = t.model.now; filling = t.filling.now; last = t.last } in
    let told = subst (IsTightened t.model.now c.args.point c.args.left.variable t.bounds c.tighten.new.self) c.in-Empty.is c.in_ok-told.ensures.told in
    closed_so q t.all t.bounds c.tighten.new.self (reverse t.steps.items) t.closed c.args.point (none_at q c.args.point (omega arith) t.bounds told.0) told.1 c.self.invariant
