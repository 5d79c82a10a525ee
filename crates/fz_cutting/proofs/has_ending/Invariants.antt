use Rattle.std.proofs.Common.{drop, ◌++◌}
use Rattle.std.specs.Prelude.{Any}
use Rattle.fz_cutting.specs.Short.{AreItems, endings}
use Rattle.fz_cutting.proofs.Lists.{Has}
use Rattle.fz_cutting.proofs.has_ending.Given as goal

abbrev pub invariant-loop-ending : goal.invariant-loop-ending
invariant-loop-ending l = Any (λ e. AreItems l.limits l.model (l.text ++ e)) endings
    → Has (λ e. AreItems l.limits l.model (l.text ++ e.now)) (drop l.ending-index l.ending-items)
