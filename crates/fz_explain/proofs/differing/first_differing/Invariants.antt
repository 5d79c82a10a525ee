use Rattle.std.proofs.Common.{◌≡◌, drop, map}
use Rattle.fz_filling.specs.of_model.Names.{literal_value}
use Rattle.fz_filling.specs.of_model.Shown.{scalar_terms}
use Rattle.fz_tree.specs.View.{bare_literal}
use Rattle.fz_explain.specs.Differing.{differing_from, first_differing}
use Rattle.fz_explain.proofs.differing.first_differing.Given as goal

abbrev pub invariant-loop-place : goal.invariant-loop-place
invariant-loop-place l =
    first_differing l.filling (scalar_terms l.scalars) (map (λ x. literal_value (bare_literal x)) l.literals)
    ≡ differing_from l.filling l.place (drop l.place (scalar_terms l.scalars)) (map (λ x. literal_value (bare_literal x)) (drop l.place l.literals))
