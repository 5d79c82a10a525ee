use Rattle.std.proofs.Common.{FitsSigned, w64, rules}
use Rattle.fz_bounds.proofs.Shares.{factor_is, same_bits}
use Rattle.fz_bounds.proofs.opened.OpenConstraint.is_factor.Goals as goal

pub returns : goal.returns
returns c = λ yes.
    let f = c.least-factor.result in
    let fits : FitsSigned w64 f = search rules in
    let second : FitsSigned w64 c.greatest.result = search rules in
    let third : FitsSigned w64 c.least.result = search rules in
    let fourth : FitsSigned w64 c.greatest-2.result = search rules in
    factor_is c.args.self.now c.requires.probed c.args.place f c.greatest.result c.least.result c.greatest-2.result c.least-factor.ensures c.greatest.ensures c.least.ensures c.greatest-2.ensures
    (same_bits c.greatest.result f second fits c.if-greatest-factor.false) (same_bits c.least.result f third fits c.if-least-factor.false) (same_bits c.greatest-2.result f fourth fits c.if-greatest-factor-2.false)
