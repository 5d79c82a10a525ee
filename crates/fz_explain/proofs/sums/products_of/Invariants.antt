use Rattle.std.proofs.Common.{◌≡◌, ◌++◌, drop, map}
use Rattle.fz_filling.specs.of_model.States.{known_products}
use Rattle.fz_filling.specs.of_model.Slots.{scalar_term}
use Rattle.fz_explain.proofs.sums.products_of.Given as goal

abbrev pub invariant-loop-place : goal.invariant-loop-place
invariant-loop-place l =
    known_products l.filling (map scalar_term l.a) (map scalar_term l.b)
    ≡ l.products.items ++ known_products l.filling (map scalar_term (drop l.place l.a)) (map scalar_term (drop l.place l.b))
