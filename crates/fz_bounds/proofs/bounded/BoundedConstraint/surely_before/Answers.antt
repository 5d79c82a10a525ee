use Rattle.std.proofs.Common.{◌≡◌, ◌<◌, ◌≤◌, true, false, length, int_le, int_lt, sym, ◌∙◌, arith, rules}
use Rattle.std.proofs.lemmas.Bool.{false_from_ne_true, true≢false}
use Rattle.fz_model.specs.Relations.{◌=ℤ◌}
use Rattle.fz_model.specs.of_builtins.of_kernel.Given.{slots_at}
use Rattle.fz_bounds.specs.Within.{given, numbers_at}
use Rattle.fz_bounds.proofs.Failed.{always_so, never_so}
use Rattle.fz_bounds.proofs.Lists.{element_there, elements_counted}
use Rattle.fz_bounds.proofs.Comparing.{less_comes, rest_leads, shorter}
use Rattle.fz_bounds.proofs.bounded.BoundedConstraint.surely_before.Goals as goal

pub loop-place-preserved : goal.loop-place-preserved
loop-place-preserved c = λ K f g comes.
    let xs = given c.args.self.now in
    let t = c.args.truths in
    let i = c.loop-place.place in
    let ns = numbers_at t K xs c.args.one in
    let ms = numbers_at t K xs c.args.other in
    let first : i < length (slots_at xs c.args.one) = omega arith in
    let second : i < length (slots_at xs c.args.other) = omega arith in
    let (n, at_n) = element_there t K xs c.args.one i first in
    let (m, at_m) = element_there t K xs c.args.other i second in
    let most : int_le n m ≡ true = always_so c.at_most.result (int_le n m) (search rules) (c.at_most.ensures n m (c.element-first.ensures K f n at_n) (c.element-second.ensures K g m at_m)) in
    c.loop-place.invariant K f g (rest_leads ns ms i n m at_n at_m most comes)

pub returns-then-is_always : goal.returns-then-is_always
returns-then-is_always c = λ _ K f g.
    let xs = given c.args.self.now in
    let t = c.args.truths in
    let i = c.loop-place.place in
    let ns = numbers_at t K xs c.args.one in
    let ms = numbers_at t K xs c.args.other in
    let first : i < length (slots_at xs c.args.one) = omega arith in
    let second : i < length (slots_at xs c.args.other) = omega arith in
    let (n, at_n) = element_there t K xs c.args.one i first in
    let (m, at_m) = element_there t K xs c.args.other i second in
    let less : int_lt n m ≡ true = always_so c.below.result (int_lt n m) (search rules) (c.below.ensures n m (c.element-first.ensures K f n at_n) (c.element-second.ensures K g m at_m)) in
    c.loop-place.invariant K f g (less_comes ns ms i n m at_n at_m less)

pub returns-then-size-other_size : goal.returns-then-size-other_size
returns-then-size-other_size c = λ _ K f g.
    let xs = given c.args.self.now in
    let t = c.args.truths in
    let i = c.loop-place.place in
    let ns = numbers_at t K xs c.args.one in
    let ms = numbers_at t K xs c.args.other in
    let counted = elements_counted t K xs c.args.one c.count-size.result c.count-size.ensures in
    let past : length ns ≤ i = omega arith in
    let more : i < length (slots_at xs c.args.other) = omega arith in
    let (m, at_m) = element_there t K xs c.args.other i more in
    c.loop-place.invariant K f g (shorter ns ms i m past at_m)
