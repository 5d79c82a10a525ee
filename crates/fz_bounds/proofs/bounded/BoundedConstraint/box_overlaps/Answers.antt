use Rattle.std.proofs.Common.{◌≡◌, ◌<◌, ◌&&◌, ◌||◌, false, length, arith, rules}
use Rattle.std.specs.List.{zip}
use Rattle.fz_model.specs.Relations.{are_apart, boxes, has_no_area, lie_apart, Box}
use Rattle.fz_model.specs.of_builtins.of_kernel.Given.{ints_at, slots_at}
use Rattle.fz_bounds.specs.Spans.{boxes_apart}
use Rattle.fz_bounds.specs.Within.{given}
use Rattle.fz_bounds.proofs.Failed.{never_so}
use Rattle.fz_model.proofs.of_builtins.Failing.{pair_fails, zipped}
use Rattle.fz_bounds.proofs.Lists.{is_there}
use Rattle.fz_bounds.proofs.bounded.BoundedConstraint.box_overlaps.Goals as goal

pub returns-then-is_never : goal.returns-then-is_never
returns-then-is_never c = λ _ K f g h k.
    let xs = given c.args.self.now in
    let x = ints_at K xs 0 in
    let y = ints_at K xs c.args.y in
    let width = ints_at K xs c.args.width in
    let height = ints_at K xs 3 in
    let spare = c.args.spare in
    let q = c.args.place in
    let p = c.loop-before.before in
    let before : p < q = omega arith in
    let first : p < length (slots_at xs 0) = omega arith in
    let second : p < length (slots_at xs c.args.y) = omega arith in
    let third : p < length (slots_at xs c.args.width) = omega arith in
    let fourth : p < length (slots_at xs 3) = omega arith in
    let (a, at_a) = is_there K xs 0 p first in
    let (b, at_b) = is_there K xs c.args.y p second in
    let (d, at_d) = is_there K xs c.args.width p third in
    let (e, at_e) = is_there K xs 3 p fourth in
    let (a', at_a') = is_there K xs 0 q c.requires.x in
    let (b', at_b') = is_there K xs c.args.y q c.requires.y in
    let (d', at_d') = is_there K xs c.args.width q c.requires.width in
    let (e', at_e') = is_there K xs 3 q c.requires.height in
    let one : Box = ((a, d), (b, e)) in
    let other : Box = ((a', d'), (b', e')) in
    let empty = has_no_area one || has_no_area other in
    let decided = c.or.ensures (spare && empty) (lie_apart one other)
    (c.and.ensures spare empty c.of.ensures (c.or-empty.ensures (has_no_area one) (has_no_area other) (c.has_no_area.ensures K h k d e at_d at_e) (c.has_no_area-in-loop-before.ensures K h k d' e' at_d' at_e')))
    (c.or-apart.ensures (are_apart (a, d) (a', d')) (are_apart (b, e) (b', e')) (c.are_apart-beside.ensures K f h a d a' d' at_a at_d at_a' at_d') (c.are_apart.ensures K g k b e b' e' at_b at_e at_b' at_e')) in
    let fails : boxes_apart spare one other ≡ false = never_so c.or.result (boxes_apart spare one other) (search rules) decided in
    pair_fails (boxes_apart spare) (boxes x y width height) p q one other before
    (zipped (zip x width) (zip y height) p (a, d) (b, e) (zipped x width p a d at_a at_d) (zipped y height p b e at_b at_e))
    (zipped (zip x width) (zip y height) q (a', d') (b', e') (zipped x width q a' d' at_a' at_d') (zipped y height q b' e' at_b' at_e')) fails
