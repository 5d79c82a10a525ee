use Rattle.std.proofs.Common.{◌∙◌, ap, append-nil, not, reverse, subst}
use Rattle.fz_search.specs.Found.{Asked}
use Rattle.fz_search.specs.Tree.{Covers}
use Rattle.fz_search.proofs.Nodes.{left_so, taken_so}
use Rattle.fz_search.proofs.tree.Tree.step_back.Goals as goal

pub invariant_of-self-2 : goal.invariant_of-self-2
invariant_of-self-2 c =
    let t = c.self.inside in
    let q : Asked = record { model = t.model.now; filling = t.filling.now; last = t.last } in
    taken_so q t.all t.bounds c.enter.new.bounds c.undo.new.bounds c.pop.new.self.items t.steps.items c.push.new.self.items t.closed c.in-Some.step c.in-Some-branch.branch c.in_ok-rest.rest (c.is_none.ensures ∙ ap not c.if-is_none.false) c.in-Some-branch.is c.undo.ensures c.in_ok-rest.ensures.parted (c.in_ok-rest.ensures.back c.in-Some.step.was) c.in-Some.ensures.items c.in_ok-push.ensures.items c.self.invariant

pub invariant_of-self : goal.invariant_of-self
invariant_of-self c =
    let t = c.self.inside in
    let q : Asked = record { model = t.model.now; filling = t.filling.now; last = t.last } in
    subst (λ xs. Covers q t.all t.bounds (reverse xs) t.closed) (c.in_default.ensures.items ∙ append-nil c.pop.new.self.items) c.self.invariant

pub invariant_of-self-in_default-branch : goal.invariant_of-self-in_default-branch
invariant_of-self-in_default-branch c =
    let t = c.self.inside in
    let q : Asked = record { model = t.model.now; filling = t.filling.now; last = t.last } in
    left_so q t.all t.bounds c.undo.new.bounds c.pop.new.self.items t.steps.items t.closed c.in-Some.step (c.is_none.ensures ∙ ap not c.if-is_none.false) c.in_default-branch.is c.undo.ensures c.in-Some.ensures.items c.self.invariant
