use Rattle.std.proofs.Common.{false, cond, sym, ◌∙◌}
use Rattle.fz_builtins.specs.declared.outcome.Outcome.TheVariants.{TooLarge, Truth, Unknown}
use Rattle.fz_builtins.specs.of_kernel.Given.{read_unknown}
use Rattle.fz_builtins.specs.of_kernel.Views.{arguments_of, assigned}
use Rattle.fz_builtins.specs.Outcomes.{outcome_beyond, told}
use Rattle.fz_builtins.specs.of_meaning.Known.{known_row}
use Rattle.fz_model.proofs.constraints.of_wrong_kind.Goals as goal

pub returns-then-is_not_known : goal.returns-then-is_not_known
returns-then-is_not_known c =
    let beyond = sym c.if-is_beyond.true ∙ c.is_beyond.ensures in
    let unknown = sym c.if-is_not_known.true ∙ c.is_not_known.ensures in
    λ i. told (cond (beyond i) (cond (unknown i) Unknown TooLarge) (Truth false))

pub returns-else-is_not_known : goal.returns-else-is_not_known
returns-else-is_not_known c =
    let beyond = sym c.if-is_beyond.true ∙ c.is_beyond.ensures in
    let unknown = sym c.if-is_not_known.false ∙ c.is_not_known.ensures in
    λ i. told (cond (beyond i) (cond (unknown i) Unknown TooLarge) (Truth false))

pub returns-else-is_beyond : goal.returns-else-is_beyond
returns-else-is_beyond c =
    let beyond = sym c.if-is_beyond.false ∙ c.is_beyond.ensures in
    let otherwise = outcome_beyond (known_row c.args.known) (assigned c.args.view.now) (arguments_of c.args.view.now) in
    λ i. told (cond (beyond i) otherwise (Truth false))
