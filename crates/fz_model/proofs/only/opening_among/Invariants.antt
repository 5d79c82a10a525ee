use Rattle.std.proofs.Common.{drop, IfSome}
use Rattle.fz_model.specs.Openings.{posted_with}
use Rattle.fz_model.proofs.Opens.{SoFar, StandsIn, scalars}
use Rattle.fz_model.proofs.only.opening_among.Given as goal

abbrev pub invariant-loop-number : goal.invariant-loop-number
invariant-loop-number l = record {
  seen : SoFar l.partial l.target (scalars (posted_with l.parts l.arguments l.target)) (scalars (posted_with l.parts (drop l.number l.arguments) l.target)) l.found;
  stands : IfSome l.found (StandsIn l.partial l.target (posted_with l.parts l.arguments l.target));
}
