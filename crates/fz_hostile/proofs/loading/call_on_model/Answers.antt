use Rattle.std.proofs.Common.{subst, sym}
use Rattle.fz_model.specs.Meaning.{IsPartial, variables_of}
use Rattle.fz_model.proofs.Partials.{nothing_fits}
use Rattle.fz_hostile.proofs.loading.call_on_model.Goals as goal

pub call_on_nothing-requires : goal.call_on_nothing-requires
call_on_nothing-requires c = record { fits = subst (IsPartial c.args.model.now) (sym c.in-Ok.ensures.empty) (nothing_fits (variables_of c.args.model.now)) }
