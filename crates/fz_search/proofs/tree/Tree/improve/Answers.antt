use Rattle.std.proofs.Common.{◌≡◌, refl, reverse, arith}
use Rattle.std.proofs.lemmas.Int.{ints}
use Rattle.fz_bounds.specs.Bounds.{number_as}
use Rattle.fz_bounds.specs.Ends.{put_in}
use Rattle.fz_bounds.specs.declared.ends.KindEnds.{KindEnds}
use Rattle.fz_bounds.specs.of_model.declared.Kind.TheVariants.{Int as IntKind}
use Rattle.fz_bounds.proofs.Numbers.{restored}
use Rattle.fz_search.specs.Found.{Asked}
use Rattle.fz_search.proofs.Nodes.{closed_so, improved, narrowed_so, none_better, put_so}
use Rattle.fz_search.proofs.tree.Tree.improve.Goals as goal

pub invariant_of-self : goal.invariant_of-self
invariant_of-self c =
    let t = c.self.inside in
    let q : Asked = record { model = t.model.now; filling = t.filling.now; last = t.last } in
    let o = c.in-Some-objective_of in
    let (low, high) = c.better_than-low.result in
    closed_so q t.all t.bounds t.bounds (reverse t.steps.items) t.closed 0
    (none_better q c.in-Some.last o.variable o.is_cost c.in-Some.is o.ensures t.bounds c.in-Some-ends.was c.in-Some-ends.ensures.exact c.in-Int.is low high (λ x from to less more. c.better_than-low.ensures.better x (omega (arith, ints)) (omega (arith, ints)) (λ e. let l = less e in omega (arith, ints)) (λ e. let m = more e in omega (arith, ints))) (omega (arith, ints)))
    refl c.self.invariant

pub invariant_of-self-2 : goal.invariant_of-self-2
invariant_of-self-2 c =
    let t = c.self.inside in
    let q : Asked = record { model = t.model.now; filling = t.filling.now; last = t.last } in
    let o = c.in-Some-objective_of in
    let was = c.in-Some-ends.was in
    let (low, high) = c.better_than-low.result in
    let narrower = c.narrow.new.self in
    let better : KindEnds = record { kind = IntKind; low = low; high = high } in
    let exact : narrower ≡ put_in t.bounds o.variable better = put_so t.bounds narrower o.variable better _ _ c.narrow.ensures.exact (omega (arith, ints)) (omega (arith, ints)) in
    narrowed_so q t.all t.bounds narrower t.steps.items c.push.new.self.items t.closed _
    (improved q c.in-Some.last o.variable o.is_cost c.in-Some.is o.ensures t.bounds was c.in-Some-ends.ensures.exact c.in-Int.is low high (λ x from to less more. c.better_than-low.ensures.better x (omega (arith, ints)) (omega (arith, ints)) (λ e. let l = less e in omega (arith, ints)) (λ e. let m = more e in omega (arith, ints))) narrower exact)
    (restored t.bounds o.variable was c.in-Some-ends.ensures.exact narrower (put_in narrower o.variable was) (number_as IntKind low) (number_as IntKind high) was.kind was.low was.high exact refl refl refl refl)
    c.in_ok-push.ensures.items c.self.invariant
