use Rattle.std.proofs.Common.{refl, sym, subst, ◌⊎◌, arith}
use Rattle.std.proofs.lemmas.Int.{ints}
use Rattle.fz_bounds.specs.Bounds.{IsInside, number_as}
use Rattle.fz_bounds.specs.Ends.{put_in}
use Rattle.fz_bounds.proofs.Numbers.{restored}
use Rattle.fz_search.specs.Found.{Asked}
use Rattle.fz_search.proofs.Nodes.{put_so, stepped_so}
use Rattle.fz_search.proofs.tree.Tree.split.Goals as goal

pub invariant_of-self-2 : goal.invariant_of-self-2
invariant_of-self-2 c =
    let t = c.self.inside in
    let q : Asked = record { model = t.model.now; filling = t.filling.now; last = t.last } in
    let n = c.args.split.variable in
    let was = c.in-Some.was in
    let here = c.halves.result.0 in
    let narrower = c.narrow.new.self in
    let is = put_so t.bounds narrower n here _ _ c.narrow.ensures.exact (omega (arith, ints)) (omega (arith, ints)) in
    stepped_so q t.all t.bounds narrower t.steps.items c.push.new.self.items t.closed _
    (λ A sought inside. subst (λ D. IsInside D A ⊎ IsInside (put_in t.bounds n c.halves.result.1) A) (sym is) (c.halves.ensures t.bounds n c.in-Some.ensures.exact A inside))
    (restored t.bounds n was c.in-Some.ensures.exact narrower (put_in narrower n was) (number_as here.kind here.low) (number_as here.kind here.high) was.kind was.low was.high is refl refl refl refl)
    c.in_ok-push.ensures.items c.self.invariant
