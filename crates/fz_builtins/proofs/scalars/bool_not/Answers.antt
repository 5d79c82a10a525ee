use Rattle.std.proofs.Common.{◌≡◌, Bool, true, false, not, refl, ap, sym, ◌∙◌}
use Rattle.fz_globals.specs.of_meaning.Builtins.{row_at}
use Rattle.fz_globals.specs.of_meaning.Relations.{◌=ᴮ◌}
use Rattle.fz_globals.specs.of_meaning.Results.{result_of}
use Rattle.fz_builtins.proofs.RowTests.{same_bool_either_way}
use Rattle.fz_builtins.proofs.scalars.bool_not.Goals as goal

other : (x y : Bool) → not (x =ᴮ y) ≡ (x =ᴮ not y)
other true y = refl
other false true = refl
other false false = refl

pub returns-then-first : goal.returns-then-first
unfolding row_at result_of
returns-then-first c =
    rw c.if-first.true ((refl, refl, refl), λ v. other v _ ∙ ap (λ b. v =ᴮ not b) (sym c.truth.ensures.read))

pub returns-else-first : goal.returns-else-first
unfolding row_at result_of
returns-else-first c =
    rw c.if-first.false ((refl, refl, refl), λ v. ap not (same_bool_either_way _ v) ∙ other v _ ∙ ap (λ b. v =ᴮ not b) (sym c.truth-else-first.ensures.read))
