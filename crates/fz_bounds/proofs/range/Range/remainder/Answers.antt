use Rattle.std.proofs.Common.{◌-ℤ◌, int_rem, pos, subst, unsigned_abs}
use Rattle.std.specs.Int.{int_max, int_min}
use Rattle.fz_bounds.specs.Decided.{LiesIn}
use Rattle.fz_bounds.proofs.Remainders.{rem_near, rem_towards}
use Rattle.fz_bounds.proofs.range.Range.remainder.Goals as goal

pub returns : goal.returns
returns c = λ a b f g e.
    let m = pos (unsigned_abs b) -ℤ pos 1 in
    let r = int_rem a b in
    let (low, high) = rem_near a b e in
    let most : LiesIn c.minus-most.result m = c.minus-most.ensures (pos (unsigned_abs b)) (pos 1) (c.abs.ensures b g) c.of.ensures in
    let near : LiesIn c.hull-near.result r = c.hull-near.ensures m (pos 0 -ℤ m) r most (c.negated.ensures m most) low high in
    let above : LiesIn c.max.result (int_max r (int_min a (pos 0))) = c.max.ensures r (int_min a (pos 0)) near (c.min.ensures a (pos 0) f c.of-2.ensures) in
    subst (LiesIn c.min-2.result) (rem_towards a b) (c.min-2.ensures (int_max r (int_min a (pos 0))) (int_max a (pos 0)) above (c.max-2.ensures a (pos 0) f c.of-3.ensures))
