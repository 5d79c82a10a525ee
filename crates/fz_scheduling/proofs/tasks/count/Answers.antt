use Rattle.std.proofs.Common.{◌≡◌, length, min, arith}
use Rattle.std.specs.List.{zip}
use Rattle.std.proofs.lemmas.Slice.Zip.{length-zip}
use Rattle.fz_kernel.specs.Views.{ints}
use Rattle.fz_scheduling.proofs.tasks.count.Goals as goal

pub returns : goal.returns
returns c =
    let spans = zip (ints c.args.starts.now) (ints c.args.durations.now) in
    let uses = ints c.args.uses.now in
    let both : length (zip spans uses) ≡ min (length spans) (length uses) = length-zip spans uses in
    omega arith
