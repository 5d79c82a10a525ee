use Rattle.std.proofs.Common.{subst}
use Rattle.fz_bounds.specs.Within.{TellsTruth}
use Rattle.fz_bounds.proofs.rows.control.Goals as goal

pub returns : goal.returns
returns c =
    subst (λ n. TellsTruth c.args.at.now n c.truth.result) c.control_index.ensures.exact
    c.truth.ensures
