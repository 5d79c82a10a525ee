use Rattle.std.proofs.Common.{refl}
use Rattle.fz_bounds.proofs.Forms.{implied_told, reified_told}
use Rattle.fz_bounds.proofs.rows.form_foretold.Goals as goal

pub returns-in-Reified : goal.returns-in-Reified
returns-in-Reified c =
    reified_told c.args.at.now c.args.known.builtin c.args.known c.control.result c.in_ok-base.base c.same.result refl c.in-Reified.is c.control.ensures c.in_ok-base.ensures c.same.ensures

pub returns-in-Implied : goal.returns-in-Implied
returns-in-Implied c =
    implied_told c.args.at.now c.args.known.builtin c.args.known c.control-in-Implied.result c.negated.result c.in_ok-base.base c.or.result refl c.in-Implied.is c.control-in-Implied.ensures c.in_ok-base.ensures c.negated.ensures c.or.ensures
