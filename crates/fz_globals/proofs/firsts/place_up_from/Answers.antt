use Rattle.std.proofs.Common.{◌+◌, ◌-◌, ◌/◌, ◌<◌, pos, ◌<ℤ◌, ◌≤ℤ◌, get_or, length, to_z, of_z, arith}
use Rattle.std.specs.Int.{w128}
use Rattle.std.proofs.lemmas.Int.{ints}
use Rattle.fz_globals.proofs.FirstPlaces.{rises}
use Rattle.fz_globals.proofs.firsts.place_up_from.Goals as goal

pub loop-start-preserved-then-sorted-middle : goal.loop-start-preserved-then-sorted-middle
loop-start-preserved-then-sorted-middle c =
    let xs = c.args.sorted.now in
    let middle = c.loop-start.start + (c.loop-start.end - c.loop-start.start) / 2 in
    let low = to_z w128 (of_z w128 c.args.low) in
    let inside : middle < length xs = omega arith in
    let here : get_or xs middle (pos 0) <ℤ low = omega (arith, ints) in
    record {
      order = omega arith;
      within = c.loop-start.invariant.within;
      below = λ k h.
          let under : get_or xs k (pos 0) ≤ℤ get_or xs middle (pos 0) = rises xs c.requires k middle (omega arith) inside in
          omega (arith, ints);
      from = c.loop-start.invariant.from;
    }

pub loop-start-preserved : goal.loop-start-preserved
loop-start-preserved c =
    let xs = c.args.sorted.now in
    let middle = c.loop-start.start + (c.loop-start.end - c.loop-start.start) / 2 in
    let low = to_z w128 (of_z w128 c.args.low) in
    let here : low ≤ℤ get_or xs middle (pos 0) = omega (arith, ints) in
    record {
      order = omega arith;
      within = omega arith;
      below = c.loop-start.invariant.below;
      from = λ k h g.
          let over : get_or xs middle (pos 0) ≤ℤ get_or xs k (pos 0) = rises xs c.requires middle k h g in
          omega (arith, ints);
    }
