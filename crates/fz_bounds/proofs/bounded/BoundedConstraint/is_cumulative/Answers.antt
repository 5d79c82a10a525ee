use Rattle.std.proofs.Common.{◌≡◌, ◌<◌, ◌&&◌, ℤ, false, int_le, length, arith, rules}
use Rattle.std.proofs.lemmas.Bool.{and_left}
use Rattle.std.specs.List.{zip}
use Rattle.fz_model.specs.Relations.{is_natural, used_at}
use Rattle.fz_model.specs.of_builtins.of_kernel.Given.{int_at, ints_at, slots_at}
use Rattle.fz_bounds.specs.Decided.{LiesIn}
use Rattle.fz_bounds.specs.Within.{given}
use Rattle.fz_model.proofs.of_builtins.Failing.{one_fails, zipped}
use Rattle.fz_bounds.proofs.Chosen.{both_counted, some_in_both}
use Rattle.fz_bounds.proofs.Failed.{never_so}
use Rattle.fz_bounds.proofs.Lists.{is_there, numbers_counted}
use Rattle.fz_bounds.proofs.Peak.{too_much}
use Rattle.fz_bounds.proofs.bounded.BoundedConstraint.is_cumulative.Goals as goal

pub returns-then-is_never-2 : goal.returns-then-is_never-2
returns-then-is_never-2 c = λ K f g h k.
    let xs = given c.args.self.now in
    let spans = zip (ints_at K xs 0) (ints_at K xs 1) in
    let tasks = zip spans (ints_at K xs 2) in
    let most = int_at K xs 3 in
    let i = c.loop-task.task in
    let starts = numbers_counted K xs 0 c.count.result c.count.ensures in
    let lasts = numbers_counted K xs 1 c.count-2.result c.count-2.ensures in
    let uses = numbers_counted K xs 2 c.count-3.result c.count-3.ensures in
    let counted : c.min-spans.result ≡ length spans = both_counted (ints_at K xs 0) (ints_at K xs 1) c.count.result c.count-2.result c.min-spans.result starts lasts (omega arith) in
    let some : 0 < length tasks = some_in_both spans (ints_at K xs 2) c.min-spans.result c.count-3.result i counted uses (omega arith) in
    let (t, time) : (z : ℤ) × LiesIn c.of-time.result z = (_, c.of-time.ensures) in
    let fails : int_le (used_at t tasks) most ≡ false = never_so c.at_most.result (int_le (used_at t tasks) most) (search rules) (c.at_most.ensures (used_at t tasks) most (c.used_at.ensures K f g h t time) (c.number.ensures K k)) in
    too_much tasks most t some fails

pub returns-then-is_never : goal.returns-then-is_never
returns-then-is_never c = λ K f g h k.
    let xs = given c.args.self.now in
    let spans = zip (ints_at K xs 0) (ints_at K xs 1) in
    let tasks = zip spans (ints_at K xs 2) in
    let i = c.loop-task.task in
    let first : i < length (slots_at xs 0) = omega arith in
    let second : i < length (slots_at xs 1) = omega arith in
    let third : i < length (slots_at xs 2) = omega arith in
    let (s, at_s) = is_there K xs 0 i first in
    let (d, at_d) = is_there K xs 1 i second in
    let (u, at_u) = is_there K xs 2 i third in
    let there = zipped spans (ints_at K xs 2) i (s, d) u (zipped (ints_at K xs 0) (ints_at K xs 1) i s d at_s at_d) at_u in
    let fails : (is_natural d && is_natural u) ≡ false = never_so c.is_counted.result (is_natural d && is_natural u) (search rules) (c.is_counted.ensures K g h d u at_d at_u) in
    and_left _ _ (and_left _ _ (one_fails (λ t. is_natural t.0.1 && is_natural t.1) tasks i ((s, d), u) there fails))
