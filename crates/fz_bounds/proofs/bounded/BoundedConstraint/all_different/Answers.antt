use Rattle.fz_bounds.proofs.bounded.BoundedConstraint.all_different.Goals as goal

pub returns-then-are_crowded : goal.returns-then-are_crowded
returns-then-are_crowded c = λ K f. c.are_crowded.ensures c.if-are_crowded.true K f

pub returns-then-repeated : goal.returns-then-repeated
returns-then-repeated c = λ K f. c.in_ok-repeated.ensures c.if-repeated.true K f
