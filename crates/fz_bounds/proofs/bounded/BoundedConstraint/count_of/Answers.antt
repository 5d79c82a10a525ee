use Rattle.std.proofs.Common.{◌≡◌, ◌<◌, ◌≤◌, ◌+◌, [], ap, drop, length, arith}
use Rattle.std.proofs.lemmas.List.{drop_all}
use Rattle.fz_model.specs.Relations.{◌=ℤ◌, as_number, count_of}
use Rattle.fz_model.specs.of_builtins.of_kernel.Given.{ints_at, slots_at}
use Rattle.fz_bounds.specs.Within.{given}
use Rattle.fz_bounds.proofs.Added.{all_so_far, next_passing, none_so_far, one_more}
use Rattle.fz_bounds.proofs.Lists.{is_there, numbers_counted}
use Rattle.fz_bounds.proofs.bounded.BoundedConstraint.count_of.Goals as goal

pub loop-place-init : goal.loop-place-init
loop-place-init c = λ K f v g.
    none_so_far (count_of (ints_at K (given c.args.self.now) c.args.array) v) c.of-sum.result c.of-sum.ensures

pub loop-place-preserved : goal.loop-place-preserved
loop-place-preserved c = λ K f v g.
    let xs = given c.args.self.now in
    let i = c.loop-place.place in
    let ns = ints_at K xs c.args.array in
    let within : i < length (slots_at xs c.args.array) = omega arith in
    let (n, at) = is_there K xs c.args.array i within in
    one_more (count_of ns v) (count_of (drop i ns) v) (count_of (drop (i + 1) ns) v) (as_number (n =ℤ v)) c.loop-place.sum c.number.result c.plus-sum.result
    (c.loop-place.invariant K f v g) (next_passing (λ x. x =ℤ v) ns i n at)
    (c.number.ensures (n =ℤ v) (c.equal-same.ensures n v (c.number_at.ensures K f n at) g)) c.plus-sum.ensures

pub returns : goal.returns
returns c = λ K f v g.
    let xs = given c.args.self.now in
    let i = c.loop-place.place in
    let ns = ints_at K xs c.args.array in
    let counted = numbers_counted K xs c.args.array c.count-place-end.result c.count-place-end.ensures in
    let past : length ns ≤ i = omega arith in
    let ended : drop i ns ≡ [] = drop_all i ns past in
    all_so_far (count_of ns v) (count_of (drop i ns) v) c.loop-place.sum (c.loop-place.invariant K f v g) (ap (λ ys. count_of ys v) ended)
