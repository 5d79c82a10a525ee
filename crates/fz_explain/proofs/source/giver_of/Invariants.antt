use Rattle.std.proofs.Common.{◌≡◌, drop, map}
use Rattle.fz_filling.specs.Givers.{giver_view}
use Rattle.fz_explain.specs.Sources.{giver_of}
use Rattle.fz_explain.proofs.source.giver_of.Given as goal

abbrev pub invariant-loop-step : goal.invariant-loop-step
invariant-loop-step l = giver_of (map giver_view l.steps) l.variable ≡ giver_of (map giver_view (drop l.step-index l.steps)) l.variable
