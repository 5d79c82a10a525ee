use Rattle.std.proofs.Common.{◌≡◌, ◌<◌, ◌+◌, [], ap, cond, drop, length, pos, arith}
use Rattle.std.specs.List.{zip}
use Rattle.fz_model.specs.Relations.{◌=ℤ◌, load_of}
use Rattle.fz_model.specs.of_builtins.of_kernel.Given.{ints_at, slots_at}
use Rattle.fz_bounds.specs.Within.{given}
use Rattle.fz_bounds.proofs.Added.{all_so_far, none_so_far, one_more}
use Rattle.fz_bounds.proofs.Chosen.{chosen, next_chosen, none_in_both}
use Rattle.fz_bounds.proofs.Lists.{is_there, numbers_counted}
use Rattle.fz_model.proofs.of_builtins.Failing.{zipped}
use Rattle.fz_bounds.proofs.bounded.BoundedConstraint.load_of.Goals as goal

pub loop-item-init : goal.loop-item-init
loop-item-init c = λ K f g v h.
    none_so_far (load_of (ints_at K (given c.args.self.now) 1) (ints_at K (given c.args.self.now) 2) v) c.of-load.result c.of-load.ensures

pub loop-item-preserved : goal.loop-item-preserved
loop-item-preserved c = λ K f g v h.
    let xs = given c.args.self.now in
    let bins = ints_at K xs 1 in
    let weights = ints_at K xs 2 in
    let i = c.loop-item.item in
    let first : i < length (slots_at xs 1) = omega arith in
    let second : i < length (slots_at xs 2) = omega arith in
    let (b, at_b) = is_there K xs 1 i first in
    let (w, at_w) = is_there K xs 2 i second in
    one_more (load_of bins weights v) (chosen (λ b. b =ℤ v) (drop i (zip bins weights))) (chosen (λ b. b =ℤ v) (drop (i + 1) (zip bins weights))) (cond (b =ℤ v) w (pos 0)) c.loop-item.load c.where_holds.result c.plus-load.result
    (c.loop-item.invariant K f g v h) (next_chosen (λ b. b =ℤ v) (zip bins weights) i b w (zipped bins weights i b w at_b at_w))
    (c.where_holds.ensures w (b =ℤ v) (c.number_at-in-loop-item.ensures K g w at_w) (c.equal-is_there.ensures b v (c.number_at.ensures K f b at_b) h)) c.plus-load.ensures

pub returns : goal.returns
returns c = λ K f g v h.
    let xs = given c.args.self.now in
    let bins = ints_at K xs 1 in
    let weights = ints_at K xs 2 in
    let i = c.loop-item.item in
    let counted = numbers_counted K xs 1 c.count.result c.count.ensures in
    let weighed = numbers_counted K xs 2 c.count-2.result c.count-2.ensures in
    let ended : drop i (zip bins weights) ≡ [] = none_in_both bins weights c.count.result c.count-2.result i counted weighed (omega arith) in
    all_so_far (load_of bins weights v) (chosen (λ b. b =ℤ v) (drop i (zip bins weights))) c.loop-item.load (c.loop-item.invariant K f g v h) (ap (chosen (λ b. b =ℤ v)) ended)
