use Rattle.std.proofs.Common.{◌≡◌, length, min, arith}
use Rattle.std.specs.List.{zip}
use Rattle.std.proofs.lemmas.Slice.Zip.{length-zip}
use Rattle.fz_kernel.specs.Views.{ints}
use Rattle.fz_scheduling.proofs.boxes.count.Goals as goal

pub returns : goal.returns
returns c =
    let across = zip (ints c.args.x.now) (ints c.args.width.now) in
    let up = zip (ints c.args.y.now) (ints c.args.height.now) in
    let both : length (zip across up) ≡ min (length across) (length up) = length-zip across up in
    omega arith
