use Rattle.std.proofs.Common.{◌≡◌, ◌-ℤ◌, pos}
use Rattle.fz_bounds.specs.Ends.{Excludes}
use Rattle.fz_bounds.proofs.bounds.Bounds.cannot_lie.Given as goal

abbrev pub invariant-loop-number : goal.invariant-loop-number
invariant-loop-number l = record {
  same : l.self ≡ l.fn.self;
  never : Excludes l.asked.model.now l.asked.point l.fn.self l.asked.variable l.asked.ends.kind l.from (l.number -ℤ pos 1);
}
