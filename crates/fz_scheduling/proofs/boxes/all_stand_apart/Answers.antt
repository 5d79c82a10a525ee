use Rattle.std.proofs.Common.{◌∙◌, arith, rules}
use Rattle.fz_kernel.specs.of_meaning.Relations.{boxes}
use Rattle.fz_kernel.specs.Views.{ints}
use Rattle.fz_kernel.proofs.Between.{all_pairs_of}
use Rattle.fz_scheduling.specs.Places.{stand_apart, box_at}
use Rattle.fz_scheduling.proofs.Zipped.{next_box}
use Rattle.fz_scheduling.proofs.boxes.all_stand_apart.Goals as goal

pub returns : goal.returns
returns c =
    let x = ints c.args.x.now in
    let y = ints c.args.y.now in
    let width = ints c.args.width.now in
    let height = ints c.args.height.now in
    let pass = stand_apart c.args.spare in
    let box = box_at x y width height in
    c.all_pairs.ensures.exact (λ j k. pass (box j) (box k)) (λ j k b from below r. search rules)
    ∙ all_pairs_of (boxes x y width height) box (next_box x y width height) pass 0 _ (omega arith)
