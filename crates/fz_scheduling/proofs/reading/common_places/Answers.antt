use Rattle.std.proofs.Common.{◌≡◌, length, min, arith}
use Rattle.std.specs.List.{zip}
use Rattle.std.proofs.lemmas.Slice.Zip.{length-zip}
use Rattle.fz_kernel.specs.Views.{ints}
use Rattle.fz_scheduling.proofs.reading.common_places.Goals as goal

pub returns : goal.returns
returns c =
    let xs = ints c.args.a.now in
    let ys = ints c.args.b.now in
    let both : length (zip xs ys) ≡ min (length xs) (length ys) = length-zip xs ys in
    omega arith
