-- What is said of a row is said of the builtin that has it.
use Rattle.std.proofs.Common.{◌≡◌, subst, sym}
use Rattle.fz_store.specs.declared.Builtin.{Builtin}
use Rattle.fz_model.specs.Builtins.{row_at}
use Rattle.fz_bounds.specs.Within.{Foretells}
use Rattle.fz_bounds.specs.declared.bounded.BoundedConstraint.{BoundedConstraint}
use Rattle.fz_bounds.specs.declared.outlook.Outlook.{Outlook}

pub at_row : (s : BoundedConstraint) (b d : Builtin) (o : Outlook) → b ≡ d → Foretells s (row_at d) o
    → Foretells s (row_at b) o
at_row s b d o e h = subst (λ b. Foretells s (row_at b) o) (sym e) h
