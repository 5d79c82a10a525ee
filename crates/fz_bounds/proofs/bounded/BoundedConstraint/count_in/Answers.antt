use Rattle.std.proofs.Common.{◌≡◌, ◌<◌, ◌≤◌, ◌+◌, [], ap, drop, length, arith}
use Rattle.std.proofs.lemmas.List.{drop_all}
use Rattle.std.specs.FinSet.{contains}
use Rattle.fz_model.specs.Relations.{as_number, count_in}
use Rattle.fz_model.specs.of_builtins.of_kernel.Given.{ints_at, set_at, slots_at}
use Rattle.fz_bounds.specs.Within.{given}
use Rattle.fz_bounds.proofs.Added.{all_so_far, next_passing, none_so_far, one_more}
use Rattle.fz_bounds.proofs.Lists.{is_there, numbers_counted}
use Rattle.fz_bounds.proofs.bounded.BoundedConstraint.count_in.Goals as goal

pub loop-place-init : goal.loop-place-init
loop-place-init c = λ K f g.
    none_so_far (count_in (ints_at K (given c.args.self.now) 1) (set_at K (given c.args.self.now) 2)) c.of-sum.result c.of-sum.ensures

pub loop-place-preserved : goal.loop-place-preserved
loop-place-preserved c = λ K f g.
    let xs = given c.args.self.now in
    let i = c.loop-place.place in
    let ns = ints_at K xs 1 in
    let s = set_at K xs 2 in
    let within : i < length (slots_at xs 1) = omega arith in
    let (n, at) = is_there K xs 1 i within in
    one_more (count_in ns s) (count_in (drop i ns) s) (count_in (drop (i + 1) ns) s) (as_number (contains s n)) c.loop-place.sum c.number.result c.plus-sum.result
    (c.loop-place.invariant K f g) (next_passing (contains s) ns i n at)
    (c.number.ensures (contains s n) (c.element_is_in.ensures K f g n at)) c.plus-sum.ensures

pub returns : goal.returns
returns c = λ K f g.
    let xs = given c.args.self.now in
    let i = c.loop-place.place in
    let ns = ints_at K xs 1 in
    let s = set_at K xs 2 in
    let counted = numbers_counted K xs 1 c.count-place-end.result c.count-place-end.ensures in
    let past : length ns ≤ i = omega arith in
    let ended : drop i ns ≡ [] = drop_all i ns past in
    all_so_far (count_in ns s) (count_in (drop i ns) s) c.loop-place.sum (c.loop-place.invariant K f g) (ap (λ ys. count_in ys s) ended)
