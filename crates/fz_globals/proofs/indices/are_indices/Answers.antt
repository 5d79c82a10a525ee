use Rattle.std.proofs.Common.{◌≡◌, ◌↔◌, true, nat_eq, FitsSigned, w64, sym, ap, ◌∙◌, arith, rules}
use Rattle.std.specs.Int.{int_min}
use Rattle.std.proofs.lemmas.Int.{to_z-of_z}
use Rattle.std.specs.FinSet.{is_subset}
use Rattle.fz_kernel.specs.of_meaning.of_base.Elements.{LiesWithin}
use Rattle.fz_kernel.specs.of_meaning.Relations.{indices_from}
use Rattle.fz_globals.proofs.Flagged.{greatest, last_of, no_index, told_indices}
use Rattle.fz_globals.proofs.indices.are_indices.Goals as goal

pub returns-then-count-eq0 : goal.returns-then-count-eq0
returns-then-count-eq0 c =
    let o = c.args.first in
    let s = c.args.set.now in
    let none : c.args.count ≡ 0 = omega arith in
    record { exact = ap (λ n. nat_eq n 0) c.len.ensures.exact ∙ no_index o s ∙ ap (λ n. is_subset s (indices_from o n)) (sym none) }

pub returns : goal.returns
returns c =
    let o = c.args.first in
    let s = c.args.set.now in
    let last = c.last_index.result in
    let fits_o : FitsSigned w64 o = c.ranges.first in
    let fits_last : FitsSigned w64 last = search rules in
    let is : last ≡ int_min (last_of o c.args.count) greatest = simp to_z-of_z at c.last_index.ensures in
    let told : c.within.result ≡ true ↔ LiesWithin o last s = simp to_z-of_z at c.within.ensures.exact in
    record { exact = told_indices c.within.result s o last c.args.count told c.within.ensures.fits is }
