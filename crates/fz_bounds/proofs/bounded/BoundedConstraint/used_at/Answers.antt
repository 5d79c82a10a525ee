use Rattle.std.proofs.Common.{◌≡◌, ◌<◌, ◌+◌, [], ap, cond, drop, length, pos, arith}
use Rattle.std.specs.List.{zip}
use Rattle.fz_model.specs.Relations.{runs_at, used_at}
use Rattle.fz_model.specs.of_builtins.of_kernel.Given.{ints_at, slots_at}
use Rattle.fz_bounds.specs.Within.{given}
use Rattle.fz_bounds.proofs.Added.{all_so_far, none_so_far, one_more}
use Rattle.fz_bounds.proofs.Chosen.{both_counted, chosen, next_chosen, none_in_both}
use Rattle.fz_bounds.proofs.Lists.{is_there, numbers_counted}
use Rattle.fz_model.proofs.of_builtins.Failing.{zipped}
use Rattle.fz_bounds.proofs.bounded.BoundedConstraint.used_at.Goals as goal

pub loop-task-init : goal.loop-task-init
loop-task-init c = λ K f g h t lies.
    let xs = given c.args.self.now in
    none_so_far (used_at t (zip (zip (ints_at K xs 0) (ints_at K xs 1)) (ints_at K xs 2))) c.of-used.result c.of-used.ensures

pub loop-task-preserved : goal.loop-task-preserved
loop-task-preserved c = λ K f g h t lies.
    let xs = given c.args.self.now in
    let spans = zip (ints_at K xs 0) (ints_at K xs 1) in
    let tasks = zip spans (ints_at K xs 2) in
    let i = c.loop-task.task in
    let first : i < length (slots_at xs 0) = omega arith in
    let second : i < length (slots_at xs 1) = omega arith in
    let third : i < length (slots_at xs 2) = omega arith in
    let (s, at_s) = is_there K xs 0 i first in
    let (d, at_d) = is_there K xs 1 i second in
    let (u, at_u) = is_there K xs 2 i third in
    let there = zipped spans (ints_at K xs 2) i (s, d) u (zipped (ints_at K xs 0) (ints_at K xs 1) i s d at_s at_d) at_u in
    one_more (used_at t tasks) (chosen (runs_at t) (drop i tasks)) (chosen (runs_at t) (drop (i + 1) tasks)) (cond (runs_at t (s, d)) u (pos 0)) c.loop-task.used c.where_holds.result c.plus-used.result
    (c.loop-task.invariant K f g h t lies) (next_chosen (runs_at t) tasks i (s, d) u there)
    (c.where_holds.ensures u (runs_at t (s, d)) (c.number_at.ensures K h u at_u) (c.runs_at-runs.ensures K f g t s d lies at_s at_d)) c.plus-used.ensures

pub returns : goal.returns
returns c = λ K f g h t lies.
    let xs = given c.args.self.now in
    let spans = zip (ints_at K xs 0) (ints_at K xs 1) in
    let tasks = zip spans (ints_at K xs 2) in
    let i = c.loop-task.task in
    let starts = numbers_counted K xs 0 c.count.result c.count.ensures in
    let lasts = numbers_counted K xs 1 c.count-2.result c.count-2.ensures in
    let uses = numbers_counted K xs 2 c.count-3.result c.count-3.ensures in
    let counted : c.min-spans.result ≡ length spans = both_counted (ints_at K xs 0) (ints_at K xs 1) c.count.result c.count-2.result c.min-spans.result starts lasts (omega arith) in
    let ended : drop i tasks ≡ [] = none_in_both spans (ints_at K xs 2) c.min-spans.result c.count-3.result i counted uses (omega arith) in
    all_so_far (used_at t tasks) (chosen (runs_at t) (drop i tasks)) c.loop-task.used (c.loop-task.invariant K f g h t lies) (ap (chosen (runs_at t)) ended)
