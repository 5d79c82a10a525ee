use Rattle.std.proofs.Common.{◌≡◌, ◌<◌, false, length, arith, rules}
use Rattle.std.specs.List.{zip}
use Rattle.fz_model.specs.of_builtins.of_kernel.Given.{ints_at, slots_at}
use Rattle.fz_bounds.specs.Spans.{keep_apart}
use Rattle.fz_bounds.specs.Within.{given}
use Rattle.fz_bounds.proofs.Failed.{never_so}
use Rattle.fz_model.proofs.of_builtins.Failing.{pair_fails, zipped}
use Rattle.fz_bounds.proofs.Lists.{is_there}
use Rattle.fz_bounds.proofs.bounded.BoundedConstraint.overlaps.Goals as goal

pub returns-then-is_never : goal.returns-then-is_never
returns-then-is_never c = λ _ K f g.
    let xs = given c.args.self.now in
    let starts = ints_at K xs 0 in
    let durations = ints_at K xs 1 in
    let p = c.loop-before.before in
    let before : p < c.args.task = omega arith in
    let first : p < length (slots_at xs 0) = omega arith in
    let second : p < length (slots_at xs 1) = omega arith in
    let (s, at_s) = is_there K xs 0 p first in
    let (d, at_d) = is_there K xs 1 p second in
    let (t, at_t) = is_there K xs 0 c.args.task c.requires.starts in
    let (e, at_e) = is_there K xs 1 c.args.task c.requires.lasts in
    let fails : keep_apart c.args.spare (s, d) (t, e) ≡ false = never_so c.keep_apart.result (keep_apart c.args.spare (s, d) (t, e)) (search rules) (c.keep_apart.ensures K f g s d t e at_s at_d at_t at_e) in
    pair_fails (keep_apart c.args.spare) (zip starts durations) p c.args.task (s, d) (t, e) before (zipped starts durations p s d at_s at_d) (zipped starts durations c.args.task t e at_t at_e) fails
