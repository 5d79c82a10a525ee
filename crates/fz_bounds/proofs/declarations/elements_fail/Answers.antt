use Rattle.std.proofs.Common.{sym, rules}
use Rattle.fz_model.specs.Shown.{scalar_terms}
use Rattle.fz_model.specs.Slots.{scalar_term}
use Rattle.fz_bounds.proofs.Declared.{elements_never}
use Rattle.fz_bounds.proofs.declarations.elements_fail.Goals as goal

pub returns-then-element_fails : goal.returns-then-element_fails
returns-then-element_fails c = λ _ name.
    elements_never c.args.bounds.now name c.args.domain.now (scalar_terms c.args.elements.now) c.loop-place.place (scalar_term c.in-Some.element) (sym c.in-Some.ensures.read) (c.element_fails.ensures (search rules))
