use Rattle.std.proofs.Common.{refl}
use Rattle.fz_builtins.specs.of_meaning.Meaning.{points}
use Rattle.fz_builtins.specs.of_store.Parts.{constraint_view}
use Rattle.fz_model.proofs.Aiming.{gives_any}
use Rattle.fz_model.proofs.KindsFit.{known_fits}
use Rattle.fz_model.proofs.step.forced_any.Goals as goal

pub by_any_result-requires-clause-kinds : goal.by_any_result-requires-clause-kinds
by_any_result-requires-clause-kinds c =
    let k = c.in-Constraint.parts in
    known_fits c.args.model.now c.args.partial.now c.requires.fits (constraint_view k) k.posted.now.known c.in-Constraint.ensures.kinds c.in-Constraint.ensures.known

pub returns-in-Domain-clause-given : goal.returns-in-Domain-clause-given
returns-in-Domain-clause-given c =
    gives_any c.args.model.now c.args.partial.now (points c.args.model.now) c.args.number _ c.in-Domain.ensures.parts (λ n. refl) c.forced.result c.forced.ensures.given

pub returns-in-Definition-clause-given : goal.returns-in-Definition-clause-given
returns-in-Definition-clause-given c =
    gives_any c.args.model.now c.args.partial.now (points c.args.model.now) c.args.number _ c.in-Definition.ensures.parts (λ n. refl) c.forced-in-Definition.result c.forced-in-Definition.ensures.given
