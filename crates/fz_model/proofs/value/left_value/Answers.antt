use Rattle.fz_model.proofs.Reified.{no_implied, reified_place}
use Rattle.fz_model.proofs.value.left_value.Goals as goal

pub left_form-requires : goal.left_form-requires
left_form-requires c = reified_place c.args.known c.args.place c.in-Reified.is c.requires.result

pub returns-in-Implied : goal.returns-in-Implied
returns-in-Implied c = absurd (no_implied c.args.known c.args.place c.in-Implied.is c.requires.result)
