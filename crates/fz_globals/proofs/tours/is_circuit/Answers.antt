use Rattle.std.proofs.Common.{◌≡◌, ◌+◌, pos, true, length, Some, FitsSigned, w64, sym, subst, ◌∙◌, rules}
use Rattle.std.proofs.lemmas.Int.{to_z-of_z}
use Rattle.fz_kernel.specs.of_meaning.Relations.{are_places, as_places, end_of_tour}
use Rattle.fz_kernel.specs.Views.{ints}
use Rattle.fz_kernel.proofs.Read.{ints_counted}
use Rattle.fz_globals.proofs.Led.{placed_counted}
use Rattle.fz_globals.proofs.Walked.{NotBack, comes_to}
use Rattle.fz_globals.proofs.tours.is_circuit.Goals as goal

pub returns-in-Some : goal.returns-in-Some
returns-in-Some c =
    let o = c.args.first in
    let fits_o : FitsSigned w64 o = c.ranges.first in
    let xs = ints c.args.next.now in
    let f = as_places o xs in
    let counted : c.len-2.result ≡ length f = ints_counted c.args.next.now c.len-2.result c.len-2.ensures.counted ∙ sym (placed_counted o xs) in
    let told : c.are_indices.result ≡ are_places (length f) f = simp to_z-of_z at c.are_indices.ensures in
    let passed : c.are_indices.result ≡ true = search rules in
    let ends : end_of_tour f c.len-2.result (pos 1) ≡ Some (pos (c.in-Some.place + 1)) = simp to_z-of_z at c.in-Some.ensures.ends in
    let ahead : NotBack f (pos 1) c.len-2.result = simp to_z-of_z at c.in-Some.ensures.goes_on in
    record {
      exact = comes_to f c.in-Some.place (sym told ∙ passed) (subst (λ n. end_of_tour f n (pos 1) ≡ Some (pos (c.in-Some.place + 1))) counted ends) (subst (NotBack f (pos 1)) counted ahead);
    }
