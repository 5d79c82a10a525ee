use Rattle.std.proofs.Common.{rules, ◌≡◌, refl, ap, sym, ◌∙◌, FitsSigned, w64}
use Rattle.std.proofs.lemmas.Int.{to_z-of_z}
use Rattle.fz_globals.specs.of_meaning.Builtins.{row_at}
use Rattle.fz_globals.specs.of_meaning.Relations.{◌=ℤ◌, as_number}
use Rattle.fz_globals.specs.of_meaning.Results.{result_of}
use Rattle.fz_builtins.proofs.RowTests.{number_is}
use Rattle.fz_builtins.proofs.scalars.bool2int.Goals as goal

pub returns-then-first : goal.returns-then-first
unfolding row_at result_of
returns-then-first c =
    let fits : FitsSigned w64 c.int.result = search rules in
    rw c.if-first.true ((refl, refl, refl), λ a. ap (λ n. n =ℤ as_number a) (sym c.int.ensures.read) ∙ simp to_z-of_z at c.truth_of.ensures a)

pub returns-else-first : goal.returns-else-first
unfolding row_at result_of
returns-else-first c =
    let fits : FitsSigned w64 c.number_of_truth.result = search rules in
    let same : c.from.result ≡ c.number_of_truth.result = simp to_z-of_z at c.from.ensures in
    rw c.if-first.false ((refl, refl, refl), number_is (same ∙ c.number_of_truth.ensures.exact ∙ ap as_number c.truth.ensures.read) (search rules))
