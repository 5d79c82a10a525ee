use Rattle.std.proofs.Common.{subst, sym}
use Rattle.fz_model.specs.declared.Term.TheVariants.{Fixed, Var}
use Rattle.std.proofs.Common.{IfSome}
use Rattle.fz_bounds.specs.Ends.{AreEnds, AreEndsAt, LiesAt}
use Rattle.fz_bounds.proofs.Declared.{fixed_at, if_some, variable_at}
use Rattle.fz_bounds.proofs.declarations.ends_of_term.Goals as goal

pub returns-in-Var : goal.returns-in-Var
returns-in-Var c =
    let B = c.args.bounds.now in
    let n = c.in-Var.number in
    subst (λ t. IfSome c.ends.result (LiesAt B t)) (sym c.in-Var.is) (if_some (AreEndsAt B n) (LiesAt B (Var n)) c.ends.result (variable_at B n) c.ends.ensures.exact)

pub returns-in-Fixed : goal.returns-in-Fixed
returns-in-Fixed c =
    let B = c.args.bounds.now in
    let v = c.in-Fixed.value in
    subst (λ t. IfSome c.ends_between.result (LiesAt B t)) (sym c.in-Fixed.is) (if_some (AreEnds v v) (LiesAt B (Fixed v)) c.ends_between.result (fixed_at B v) c.ends_between.ensures)
