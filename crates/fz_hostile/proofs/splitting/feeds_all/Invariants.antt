use Rattle.std.proofs.Common.{◌≡◌}
use Rattle.fz_stream.specs.declared.splitter.Stage.TheVariants.{Finished}
use Rattle.fz_hostile.proofs.splitting.feeds_all.Given as goal

abbrev pub invariant-loop : goal.invariant-loop
invariant-loop l = l.splitter.stage ≡ Finished → ⊥
