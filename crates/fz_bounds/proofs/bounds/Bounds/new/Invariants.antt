use Rattle.fz_model.specs.Meaning.{Assignment, whole}
use Rattle.fz_model.specs.States.{IsKnownSolution}
use Rattle.fz_model.specs.Openings.{HasEach}
use Rattle.fz_bounds.specs.Bounds.{IsInside}
use Rattle.fz_bounds.proofs.bounds.Bounds.new.Given as goal

abbrev pub invariant-domains : goal.invariant-domains
invariant-domains l = (A : Assignment) → IsKnownSolution l.model A → IsInside l.bounds A

abbrev pub invariant-values : goal.invariant-values
invariant-values l = (A : Assignment) → IsKnownSolution l.model A → HasEach l.filling (whole A)
    → IsInside l.bounds A
