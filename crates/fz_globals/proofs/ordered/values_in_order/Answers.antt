use Rattle.std.proofs.Common.{◌≡◌, ◌-◌, ◌≤◌, pos, length, get_or, arith}
use Rattle.std.proofs.lemmas.Int.{ints}
use Rattle.std.proofs.lemmas.Bool.Decides.{nat_tests}
use Rattle.fz_globals.proofs.Halving.{ascends}
use Rattle.fz_globals.proofs.Valued.{value_new, value_again, all_valued}
use Rattle.fz_globals.proofs.ordered.values_in_order.Goals.{then-sorted-place, else-sorted-place}
use Rattle.fz_globals.proofs.ordered.values_in_order.Goals as goal

pub loop-place-preserved : goal.loop-place-preserved
loop-place-preserved c =
    let xs = c.args.sorted.now in
    let i = c.loop-place.place in
    elim c.if-sorted-place.branch [
      | then-sorted-place w ↦
          let other : ¬ (get_or xs (i - 1) (pos 0) ≡ get_or xs i (pos 0)) = λ same. omega (arith, ints) in
          value_new xs i c.loop-place.count (pos 0) (ascends xs c.requires) (omega arith) (omega arith) c.loop-place.invariant c.if-sorted-place.count w.count-is other
      | else-sorted-place w ↦
          let same : get_or xs (i - 1) (pos 0) ≡ get_or xs i (pos 0) = omega (arith, ints) in
          value_again xs i c.loop-place.count (pos 0) (ascends xs c.requires) (omega arith) (omega arith) c.loop-place.invariant c.if-sorted-place.count w.count-is same
    ]

pub returns : goal.returns
returns c =
    let some : 1 ≤ length c.args.sorted.now = grind (arith, nat_tests) in
    all_valued c.args.sorted.now c.loop-place.place c.loop-place.count some (omega arith) c.loop-place.invariant
