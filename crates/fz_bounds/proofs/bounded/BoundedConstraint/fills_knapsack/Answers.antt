use Rattle.std.proofs.Common.{◌&&◌}
use Rattle.std.specs.List.{list_all}
use Rattle.fz_model.specs.Relations.{◌=ℤ◌, is_natural, products, total}
use Rattle.fz_model.specs.of_builtins.of_kernel.Given.{int_at, ints_at}
use Rattle.fz_bounds.specs.Within.{given}
use Rattle.fz_bounds.proofs.bounded.BoundedConstraint.fills_knapsack.Goals as goal

pub returns : goal.returns
returns c = λ K f g h k l.
    let xs = given c.args.self.now in
    let ns = ints_at K xs 2 in
    let weight = int_at K xs 3 in
    let profit = int_at K xs 4 in
    let weighs = total (products (ints_at K xs 0) ns) in
    let brings = total (products (ints_at K xs 1) ns) in
    let counted = list_all is_natural ns in
    c.and-4.ensures (((counted && is_natural weight) && is_natural profit) && (weighs =ℤ weight)) (brings =ℤ profit)
    (c.and-3.ensures ((counted && is_natural weight) && is_natural profit) (weighs =ℤ weight)
    (c.and-2.ensures (counted && is_natural weight) (is_natural profit) (c.and.ensures counted (is_natural weight) (c.are_natural.ensures K h) (c.is_natural.ensures weight (c.number-weight.ensures K k))) (c.is_natural-2.ensures profit (c.number-profit.ensures K l)))
    (c.equal.ensures weighs weight (c.sum_of_products.ensures K f h) (c.number-weight.ensures K k)))
    (c.equal-2.ensures brings profit (c.sum_of_products-2.ensures K g h) (c.number-profit.ensures K l))
