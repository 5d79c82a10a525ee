use Rattle.std.proofs.Common.{◌≡◌, pos, true, false, length, nat_eq, ne_eqb, FitsSigned, w64, sym, ap, ◌∙◌, arith, rules}
use Rattle.std.proofs.lemmas.Int.{to_z-of_z}
use Rattle.fz_kernel.specs.of_meaning.Relations.{are_places, as_places, is_one_tour, moved_from}
use Rattle.fz_kernel.specs.Views.{ints}
use Rattle.fz_kernel.proofs.Read.{ints_counted}
use Rattle.fz_globals.proofs.Led.{different_places, placed_counted}
use Rattle.fz_globals.proofs.Walked.{no_permutation, no_positions, permutation}
use Rattle.fz_globals.proofs.tours.is_subcircuit.Goals as goal

pub returns-then-len-eq0 : goal.returns-then-len-eq0
returns-then-len-eq0 c =
    let o = c.args.first in
    let fits_o : FitsSigned w64 o = c.ranges.first in
    let xs = ints c.args.next.now in
    let counted : c.len.result ≡ length (as_places o xs) = ints_counted c.args.next.now c.len.result c.len.ensures.counted ∙ sym (placed_counted o xs) in
    let none : c.len.result ≡ 0 = omega arith in
    record { exact = no_positions (as_places o xs) (sym counted ∙ none) }

pub returns-then-not-different : goal.returns-then-not-different
returns-then-not-different c =
    let o = c.args.first in
    let fits_o : FitsSigned w64 o = c.ranges.first in
    let xs = ints c.args.next.now in
    let f = as_places o xs in
    let told : c.are_indices.result ≡ are_places (length f) f = simp to_z-of_z at c.are_indices.ensures in
    let passed : c.are_indices.result ≡ true = search rules in
    let same : c.in_ok-different.different ≡ false = search rules in
    record { exact = no_permutation f (sym told ∙ passed) (sym (different_places o xs) ∙ sym c.in_ok-different.ensures.exact ∙ same) }

pub is_one_tour-requires-clause-different : goal.is_one_tour-requires-clause-different
is_one_tour-requires-clause-different c =
    let o = c.args.first in
    let fits_o : FitsSigned w64 o = c.ranges.first in
    let xs = ints c.args.next.now in
    let apart : c.in_ok-different.different ≡ true = search rules in
    simp to_z-of_z (sym (different_places o xs) ∙ sym c.in_ok-different.ensures.exact ∙ apart)

pub returns : goal.returns
returns c =
    let o = c.args.first in
    let fits_o : FitsSigned w64 o = c.ranges.first in
    let xs = ints c.args.next.now in
    let f = as_places o xs in
    let told : c.are_indices.result ≡ are_places (length f) f = simp to_z-of_z at c.are_indices.ensures in
    let passed : c.are_indices.result ≡ true = search rules in
    let apart : c.in_ok-different.different ≡ true = search rules in
    let one : c.is_one_tour.result ≡ is_one_tour f (moved_from (pos 1) f) = simp to_z-of_z at c.is_one_tour.ensures in
    let counted : c.len.result ≡ length f = ints_counted c.args.next.now c.len.result c.len.ensures.counted ∙ sym (placed_counted o xs) in
    let some : nat_eq (length f) 0 ≡ false = ap (λ n. nat_eq n 0) (sym counted) ∙ ne_eqb c.len.result 0 (λ none. omega arith) in
    record { exact = one ∙ permutation f (sym told ∙ passed) (sym (different_places o xs) ∙ sym c.in_ok-different.ensures.exact ∙ apart) some }
