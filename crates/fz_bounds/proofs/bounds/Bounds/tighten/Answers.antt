use Rattle.std.proofs.Common.{◌∙◌, ap, refl, of_z, to_z, w64, arith}
use Rattle.std.proofs.lemmas.Int.{clamps, ints}
use Rattle.fz_bounds.specs.Bounds.{narrowed, number_as}
use Rattle.fz_bounds.proofs.Numbers.{excluded_there, left_inside, nothing_left, restored, was_inside}
use Rattle.fz_bounds.proofs.bounds.Bounds.tighten.Goals as goal

pub returns-then-most-least-clause-told : goal.returns-then-most-least-clause-told
returns-then-most-least-clause-told c =
    let m = c.args.model.now in
    let e = c.in-Some.ends in (
      nothing_left m c.args.point c.args.self.now c.args.variable e (to_z w64 (of_z w64 c.args.low)) (to_z w64 (of_z w64 c.args.high)) c.in-Some.ensures.exact
          (c.in_ok-takes_below.ensures.never c.if-not-branch.false)
          (excluded_there m c.args.point c.args.self.now c.args.variable e.kind c.in_ok-takes_below.ensures.same (c.in_ok-takes_above.ensures.never c.if-not-branch-2.false))
          (omega (arith, ints, clamps)),
      c.in_ok-takes_above.ensures.same ∙ c.in_ok-takes_below.ensures.same,
    )

pub returns-clause-told : goal.returns-clause-told
returns-clause-told c =
    let m = c.args.model.now in
    let e = c.in-Some.ends in
    let least = to_z w64 (of_z w64 c.max-least.result) in
    let most = to_z w64 (of_z w64 c.min-most.result) in
    let is = c.narrow.ensures.exact ∙ ap (λ B. narrowed B c.args.variable (number_as e.kind least) (number_as e.kind most)) (c.in_ok-takes_above.ensures.same ∙ c.in_ok-takes_below.ensures.same) in (
      left_inside m c.args.point c.args.self.now c.narrow.new.self c.args.variable e (to_z w64 (of_z w64 c.args.low)) (to_z w64 (of_z w64 c.args.high)) least most c.in-Some.ensures.exact
          (c.in_ok-takes_below.ensures.never c.if-not-branch.false)
          (excluded_there m c.args.point c.args.self.now c.args.variable e.kind c.in_ok-takes_below.ensures.same (c.in_ok-takes_above.ensures.never c.if-not-branch-2.false))
          is (omega (arith, ints, clamps)) (omega (arith, ints, clamps)),
      restored c.args.self.now c.args.variable e c.in-Some.ensures.exact c.narrow.new.self _ _ _ e.kind e.low e.high is refl refl refl refl,
    )

pub returns-clause-within : goal.returns-clause-within
returns-clause-within c = λ A inside.
    let e = c.in-Some.ends in
    let least = to_z w64 (of_z w64 c.max-least.result) in
    let most = to_z w64 (of_z w64 c.min-most.result) in
    was_inside c.args.self.now c.args.variable e c.in-Some.ensures.exact c.narrow.new.self A e.kind least most
    (c.narrow.ensures.exact ∙ ap (λ B. narrowed B c.args.variable (number_as e.kind least) (number_as e.kind most)) (c.in_ok-takes_above.ensures.same ∙ c.in_ok-takes_below.ensures.same))
    refl (omega (arith, ints, clamps)) (omega (arith, ints, clamps)) inside
