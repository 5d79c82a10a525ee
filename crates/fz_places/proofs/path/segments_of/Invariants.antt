use Rattle.fz_places.proofs.Forms.{Reading}
use Rattle.fz_places.proofs.path.segments_of.Given as goal

abbrev pub invariant-loop : goal.invariant-loop
invariant-loop l = Reading l.path l.segments.items l.rest l.counter
