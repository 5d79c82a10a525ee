use Rattle.std.proofs.Common.{◌≡◌, ◌<◌, ◌+◌, ◌*ℤ◌, ◌∙◌, [], ap, drop, length, FitsSigned, of_z, subst, sym, to_z, w64, arith, rules}
use Rattle.std.proofs.lemmas.Int.{to_z-of_z}
use Rattle.fz_model.specs.Relations.{products, total}
use Rattle.fz_model.specs.of_builtins.of_kernel.Given.{ints_at, slots_at}
use Rattle.fz_model.proofs.of_builtins.of_kernel.Added.{no_products_left}
use Rattle.fz_model.proofs.of_builtins.of_kernel.Left.{one_ends}
use Rattle.fz_bounds.specs.Decided.{LiesIn}
use Rattle.fz_bounds.specs.Within.{given}
use Rattle.fz_bounds.proofs.Added.{all_so_far, next_product, none_so_far, one_more}
use Rattle.fz_bounds.proofs.Lists.{is_there, numbers_counted}
use Rattle.fz_bounds.proofs.bounded.BoundedConstraint.sum_of_products.Goals as goal

pub loop-place-init : goal.loop-place-init
loop-place-init c = λ K f g. none_so_far (total (products (ints_at K (given c.args.self.now) c.args.factors) (ints_at K (given c.args.self.now) c.args.array))) c.of-sum.result c.of-sum.ensures

pub loop-place-preserved : goal.loop-place-preserved
loop-place-preserved c = λ K f g.
    let xs = given c.args.self.now in
    let i = c.loop-place.place in
    let first : i < length (slots_at xs c.args.factors) = omega arith in
    let second : i < length (slots_at xs c.args.array) = omega arith in
    let (a, at_a) = is_there K xs c.args.factors i first in
    let (b, at_b) = is_there K xs c.args.array i second in
    let fits : FitsSigned w64 c.in-Some.coefficient = search rules in
    let k = to_z w64 (of_z w64 c.in-Some.coefficient) in
    let same : k ≡ a = to_z-of_z w64 c.in-Some.coefficient fits ∙ sym (c.in-Some.ensures K f a at_a) in
    one_more (total (products (ints_at K xs c.args.factors) (ints_at K xs c.args.array))) (total (products (drop i (ints_at K xs c.args.factors)) (drop i (ints_at K xs c.args.array)))) (total (products (drop (i + 1) (ints_at K xs c.args.factors)) (drop (i + 1) (ints_at K xs c.args.array)))) (a *ℤ b) c.loop-place.sum c.times.result c.plus-sum.result
    (c.loop-place.invariant K f g) (next_product (ints_at K xs c.args.factors) (ints_at K xs c.args.array) i a b at_a at_b)
    (subst (λ z. LiesIn c.times.result (z *ℤ b)) same (c.times.ensures b (c.number_at.ensures K g b at_b))) c.plus-sum.ensures

pub returns : goal.returns
returns c = λ K f g.
    let xs = given c.args.self.now in
    let i = c.loop-place.place in
    let counted_a = numbers_counted K xs c.args.factors c.count.result c.count.ensures in
    let counted_b = numbers_counted K xs c.args.array c.count-2.result c.count-2.ensures in
    let ended : products (drop i (ints_at K xs c.args.factors)) (drop i (ints_at K xs c.args.array)) ≡ [] = no_products_left (ints_at K xs c.args.factors) (ints_at K xs c.args.array) i (one_ends (length (ints_at K xs c.args.factors)) (length (ints_at K xs c.args.array)) c.min-place-end.result i (omega arith) (omega arith)) in
    all_so_far (total (products (ints_at K xs c.args.factors) (ints_at K xs c.args.array))) (total (products (drop i (ints_at K xs c.args.factors)) (drop i (ints_at K xs c.args.array)))) c.loop-place.sum (c.loop-place.invariant K f g) (ap total ended)
