use Rattle.fz_bounds.proofs.Declared.{definition_never, variable_at}
use Rattle.fz_bounds.proofs.declarations.definition_fails.Goals as goal

pub returns : goal.returns
returns c = λ apart x.
    let B = c.args.bounds.now in
    definition_never B x c.args.number c.args.term.now c.in-Some.one c.in-Some-ends_of_term.other (variable_at B c.args.number c.in-Some.one c.in-Some.ensures.exact) c.in-Some-ends_of_term.ensures (c.are_apart.ensures apart)
