use Rattle.std.proofs.Common.{refl}
use Rattle.fz_meaning.specs.Builtins.{builtins, row_at}
use Rattle.fz_meaning.specs.Results.{result_of}
use Rattle.fz_meaning.proofs.row.rows.Goals as goal

pub returns : goal.returns
unfolding builtins row_at result_of
returns c = record { shapes = refl; filled = refl; together = refl; wide = refl; matrix = refl; has_forms = refl }
