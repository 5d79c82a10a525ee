use Rattle.std.proofs.Common.{rules}
use Rattle.fz_kernel.specs.of_meaning.Relations.{◌=ℤ◌, count_of}
use Rattle.fz_globals.proofs.cover.come_as_often.Goals as goal

pub returns : goal.returns
returns c = c.both_pass.ensures (λ v n. count_of c.args.sorted.now v =ℤ n) (λ v n b fits_v fits_n r. search rules)
