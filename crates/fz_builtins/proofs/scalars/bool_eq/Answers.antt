use Rattle.std.proofs.Common.{refl, ◌∙◌}
use Rattle.fz_globals.specs.of_meaning.Builtins.{row_at}
use Rattle.fz_globals.specs.of_meaning.Relations.{◌=ᴮ◌}
use Rattle.fz_globals.specs.of_meaning.Results.{result_of}
use Rattle.fz_builtins.proofs.RowTests.{same_bool_either_way, value_is}
use Rattle.fz_builtins.proofs.scalars.bool_eq.Goals as goal

pub returns-then-first : goal.returns-then-first
unfolding row_at result_of
returns-then-first c =
    rw c.if-first.true ((refl, refl, refl), value_is ◌=ᴮ◌ c.truth.ensures.read)

pub returns-else-first : goal.returns-else-first
unfolding row_at result_of
returns-else-first c =
    rw c.if-first.false ((refl, refl, refl), λ v. same_bool_either_way _ v ∙ value_is ◌=ᴮ◌ c.truth-else-first.ensures.read v)
