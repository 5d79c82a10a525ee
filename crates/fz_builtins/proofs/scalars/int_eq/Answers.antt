use Rattle.std.proofs.Common.{rules, ◌≡◌, refl, ◌∙◌, FitsSigned, w64}
use Rattle.std.proofs.lemmas.Int.{to_z-of_z}
use Rattle.fz_globals.specs.of_meaning.Builtins.{row_at}
use Rattle.fz_globals.specs.of_meaning.Results.{result_of}
use Rattle.fz_builtins.proofs.RowTests.{number_is, same_int_either_way}
use Rattle.fz_builtins.proofs.scalars.int_eq.Goals as goal

pub returns-then-first : goal.returns-then-first
unfolding row_at result_of
returns-then-first c =
    let fits : FitsSigned w64 c.int.result = search rules in
    let same : c.from.result ≡ c.int.result = simp to_z-of_z at c.from.ensures in
    rw c.if-first.true ((refl, refl, refl), number_is (same ∙ c.int.ensures.read) (search rules))

pub returns-else-first : goal.returns-else-first
unfolding row_at result_of
returns-else-first c =
    let fits : FitsSigned w64 c.int-else-first.result = search rules in
    let same : c.from-else-first.result ≡ c.int-else-first.result = simp to_z-of_z at c.from-else-first.ensures in
    rw c.if-first.false ((refl, refl, refl), λ v. same_int_either_way _ v ∙ number_is (same ∙ c.int-else-first.ensures.read) (search rules) v)
