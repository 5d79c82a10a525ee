use Rattle.std.proofs.Common.{◌≡◌, ◌<◌, ◌≤◌, true, false, length, int_le, int_lt, sym, ◌∙◌, arith, rules}
use Rattle.std.proofs.lemmas.Bool.{false_from_ne_true, true≢false}
use Rattle.fz_model.specs.Relations.{◌=ℤ◌}
use Rattle.fz_model.specs.of_builtins.of_kernel.Given.{slots_at}
use Rattle.fz_bounds.specs.Within.{given, numbers_at}
use Rattle.fz_bounds.proofs.Failed.{always_so, never_so}
use Rattle.fz_bounds.proofs.Lists.{element_there, elements_counted}
use Rattle.fz_bounds.proofs.Comparing.{ended, here_fails, rest_comes}
use Rattle.fz_bounds.proofs.bounded.BoundedConstraint.never_before.Goals as goal

pub loop-place-preserved : goal.loop-place-preserved
loop-place-preserved c = λ K f g comes.
    let xs = given c.args.self.now in
    let t = c.args.truths in
    let i = c.loop-place.place in
    let ns = numbers_at t K xs c.args.one in
    let ms = numbers_at t K xs c.args.other in
    let first : i < length (slots_at xs c.args.one) = omega arith in
    let second : i < length (slots_at xs c.args.other) = omega arith in
    let (n, at_n) = element_there t K xs c.args.one i first in
    let (m, at_m) = element_there t K xs c.args.other i second in
    let less : int_lt n m ≡ false = never_so c.below.result (int_lt n m) (search rules) (c.below.ensures n m (c.element-first.ensures K f n at_n) (c.element-second.ensures K g m at_m)) in
    rest_comes ns ms i n m at_n at_m less (c.loop-place.invariant K f g comes)

pub returns-then-is_never : goal.returns-then-is_never
returns-then-is_never c = λ _ K f g.
    let xs = given c.args.self.now in
    let t = c.args.truths in
    let i = c.loop-place.place in
    let ns = numbers_at t K xs c.args.one in
    let ms = numbers_at t K xs c.args.other in
    let first : i < length (slots_at xs c.args.one) = omega arith in
    let second : i < length (slots_at xs c.args.other) = omega arith in
    let (n, at_n) = element_there t K xs c.args.one i first in
    let (m, at_m) = element_there t K xs c.args.other i second in
    let lies_n = c.element-first.ensures K f n at_n in
    let lies_m = c.element-second.ensures K g m at_m in
    let less : int_lt n m ≡ false = never_so c.below.result (int_lt n m) (search rules) (c.below.ensures n m lies_n lies_m) in
    let same : (n =ℤ m) ≡ false = never_so c.equal.result (n =ℤ m) (search rules) (c.equal.ensures n m lies_n lies_m) in
    false_from_ne_true _ (λ e. true≢false (sym (c.loop-place.invariant K f g e) ∙ here_fails ns ms i n m at_n at_m less same))

pub returns-then-other_size-size : goal.returns-then-other_size-size
returns-then-other_size-size c = λ _ K f g.
    let xs = given c.args.self.now in
    let t = c.args.truths in
    let i = c.loop-place.place in
    let ns = numbers_at t K xs c.args.one in
    let ms = numbers_at t K xs c.args.other in
    let counted = elements_counted t K xs c.args.other c.count-other_size.result c.count-other_size.ensures in
    let past : length ms ≤ i = omega arith in
    false_from_ne_true _ (λ e. true≢false (sym (c.loop-place.invariant K f g e) ∙ ended ns ms i past))
