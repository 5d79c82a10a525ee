use Rattle.std.proofs.Common.{◌≡◌, ◌+◌, drop, arith}
use Rattle.std.specs.FinSet.{len}
use Rattle.fz_kernel.specs.Views.{sets}
use Rattle.fz_globals.specs.Held.{size_of_all}
use Rattle.fz_globals.proofs.Channelled.{one_sized}
use Rattle.fz_globals.proofs.channels.size_of_all.Goals as goal

pub loop-place-preserved : goal.loop-place-preserved
loop-place-preserved c =
    let ss = sets c.args.parts.now in
    let one : size_of_all (drop c.loop-place.place ss) ≡ len c.set.result.now + size_of_all (drop (c.loop-place.place + 1) ss) = one_sized ss c.loop-place.place c.set.result.now c.set.ensures.read in
    let size : c.len-size.result ≡ len c.set.result.now = c.len-size.ensures.exact in
    record { bound = omega arith; whole = omega arith }
