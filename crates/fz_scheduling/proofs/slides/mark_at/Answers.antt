use Rattle.std.proofs.Common.{◌≡◌, length, Some, FitsSigned, w64, ap, ◌∙◌, arith, rules}
use Rattle.std.specs.FinSet.{contains}
use Rattle.std.proofs.lemmas.Int.{to_z-of_z}
use Rattle.fz_kernel.specs.of_meaning.Relations.{as_number}
use Rattle.fz_kernel.specs.Views.{ints}
use Rattle.fz_kernel.proofs.Read.{ints_counted}
use Rattle.fz_scheduling.proofs.Terms.{marked_term, no_term}
use Rattle.fz_scheduling.proofs.slides.mark_at.Goals as goal

pub returns-then-len-place : goal.returns-then-len-place
returns-then-len-place c =
    let xs = ints c.args.xs.now in
    let counted : c.len.result ≡ length xs = ints_counted c.args.xs.now c.len.result c.len.ensures.counted in
    no_term (Some c.args.set.now) xs c.args.place (omega arith)

pub returns : goal.returns
returns c =
    let s = c.args.set.now in
    let x = c.int.result in
    let fits : FitsSigned w64 x = search rules in
    let told : c.contains.result ≡ contains s x = simp to_z-of_z at c.contains.ensures in
    let fits_mark : FitsSigned w64 c.number_of_truth.result = search rules in
    simp to_z-of_z (c.number_of_truth.ensures.exact ∙ ap as_number told ∙ marked_term s (ints c.args.xs.now) c.args.place x c.int.ensures.read)
