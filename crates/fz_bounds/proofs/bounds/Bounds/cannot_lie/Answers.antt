use Rattle.std.proofs.Common.{◌+ℤ◌, ◌-ℤ◌, ◌∙◌, pos, refl, of_z, to_z, FitsSigned, IsTrue, w64, arith, rules}
use Rattle.std.proofs.lemmas.Int.{ints, to_z-of_z}
use Rattle.fz_bounds.specs.Ends.{Excludes}
use Rattle.fz_bounds.proofs.Numbers.{excluded_there, if_ok, more_excluded, same_excluded}
use Rattle.fz_bounds.proofs.bounds.Bounds.cannot_lie.Goals as goal

pub loop-number-preserved : goal.loop-number-preserved
loop-number-preserved c =
    let q = c.args.asked.now in
    record {
      same = c.in_ok-fails_between-2.ensures.same ∙ c.loop-number.invariant.same;
      never = more_excluded q.model.now q.point c.args.self.now q.variable q.ends.kind (to_z w64 (of_z w64 (to_z w64 c.loop-number.number-bits +ℤ pos 1)) -ℤ pos 1) c.loop-number.invariant.never
          (excluded_there q.model.now q.point c.args.self.now q.variable q.ends.kind c.loop-number.invariant.same (c.in_ok-fails_between-2.ensures.never c.if-not-branch.false))
          (omega (arith, ints)) (omega (arith, ints));
    }

pub returns-clause-never : goal.returns-clause-never
returns-clause-never c =
    let q = c.args.asked.now in
    let fits : FitsSigned w64 c.args.from = search rules in
    if_ok c.fails_between-2.result _ (λ b. IsTrue b → Excludes q.model.now q.point c.args.self.now q.variable q.ends.kind c.args.from c.args.to)
    (λ b found holds. same_excluded q.model.now q.point c.args.self.now q.variable q.ends.kind c.args.from c.args.to
    (more_excluded q.model.now q.point c.args.self.now q.variable q.ends.kind c.args.to c.loop-number.invariant.never
    (excluded_there q.model.now q.point c.args.self.now q.variable q.ends.kind c.loop-number.invariant.same (found holds)) (omega (arith, ints)) (omega (arith, ints)))
    (to_z-of_z w64 c.args.from fits) refl)
    c.fails_between-2.ensures.never
