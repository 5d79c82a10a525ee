use Rattle.std.proofs.Common.{◌≡◌, rules, true, sym, ◌∙◌}
use Rattle.fz_store.specs.declared.Builtin.TheVariants.{IntPow}
use Rattle.fz_model.proofs.Values.{no}
use Rattle.fz_bounds.specs.declared.bounded.BoundedConstraint.{BoundedConstraint}
use Rattle.fz_bounds.specs.declared.outlook.Outlook.TheVariants.{Never}
use Rattle.fz_bounds.specs.Within.{AreKnown}
use Rattle.fz_model.specs.of_builtins.of_meaning.Known.{known_row}
use Rattle.fz_bounds.proofs.Never.{row_never}
use Rattle.fz_bounds.proofs.rows.row_fails.Goals as goal

pub returns : goal.returns
returns c = λ is_never.
    let s : BoundedConstraint = record { parts = c.args.parts.now; lowest = c.lowest.result; highest = c.highest.result } in
    let at : AreKnown s (known_row c.in-Some.known).shapes = search rules in
    let never : c.in_ok-told.told ≡ Never = search rules in
    let other : c.in-Some.known.builtin ≡ IntPow → ⊥ = λ e. let same : c.eq.result ≡ true = rw e at c.eq.ensures in no (sym c.if-eq.false ∙ same) in
    row_never s c.args.bounds.now c.args.parts.now.number c.args.parts.now.posted.now.known c.in-Some.known c.in_ok-told.told c.lowest.ensures c.highest.ensures c.requires.known c.in-Some.is other at c.in_ok-told.ensures never
