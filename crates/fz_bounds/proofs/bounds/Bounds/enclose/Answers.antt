use Rattle.std.proofs.Common.{pos, refl, arith}
use Rattle.std.proofs.lemmas.Int.{clamps, ints}
use Rattle.fz_model.specs.of_base.declared.value.Value.TheVariants.{Int}
use Rattle.fz_bounds.proofs.Enclosed.{amid_one, enclosed, forgotten_inside, integer_there, unmarked}
use Rattle.fz_bounds.proofs.bounds.Bounds.enclose.Goals as goal

pub returns-clause-inside : goal.returns-clause-inside
returns-clause-inside c = λ A solution within inside.
    let n = c.args.variable in
    let B = c.args.self.now in
    let zero = c.narrow.new.self in
    let (a, there) = integer_there c.args.model.now A n solution (c.if-not-is_integer.ensures refl) in
    let amid = amid_one B zero A n (Int (pos 0)) (Int a) c.narrow.ensures.exact there inside in
    let ends = c.in-Some.ensures a (c.loop-point.invariant A a there (within a there) amid solution) in
    enclosed B zero c.narrow-3.new.self A n _ _ a _ _ c.narrow.ensures.exact c.narrow-3.ensures.exact there (omega (arith, ints, ends.0)) (omega (arith, ints, clamps, ends.1)) inside

pub returns-clause-unmarked : goal.returns-clause-unmarked
returns-clause-unmarked c =
    unmarked c.args.marks.now c.narrow-2.new.self c.forget.new.self c.args.variable _ _ c.narrow-2.ensures.exact c.forget.ensures.forgotten c.requires.unmarked

pub returns-in_default-clause-inside : goal.returns-in_default-clause-inside
returns-in_default-clause-inside c = λ A solution within inside.
    forgotten_inside c.args.self.now c.narrow.new.self c.forget-in_default.new.self A c.args.variable _ _ c.narrow.ensures.exact c.forget-in_default.ensures.forgotten inside

pub returns-in_default-clause-unmarked : goal.returns-in_default-clause-unmarked
returns-in_default-clause-unmarked c =
    unmarked c.args.marks.now c.narrow-2.new.self c.forget.new.self c.args.variable _ _ c.narrow-2.ensures.exact c.forget.ensures.forgotten c.requires.unmarked
