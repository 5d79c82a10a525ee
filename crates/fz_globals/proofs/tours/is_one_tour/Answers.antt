use Rattle.std.proofs.Common.{◌≡◌, ◌+◌, pos, length, Some, slice_get, FitsSigned, w64, sym, subst, ◌∙◌}
use Rattle.std.proofs.lemmas.Int.{to_z-of_z}
use Rattle.fz_kernel.specs.of_meaning.Relations.{as_places, moved_from}
use Rattle.fz_kernel.specs.Views.{ints}
use Rattle.fz_globals.proofs.Walked.{NotBack, goes_through, tour_from}
use Rattle.fz_globals.proofs.tours.is_one_tour.Goals as goal

pub returns-in-Some-walk : goal.returns-in-Some-walk
returns-in-Some-walk c =
    let o = c.args.first in
    let fits_o : FitsSigned w64 o = c.ranges.first in
    let f = as_places o (ints c.args.next.now) in
    let ms = moved_from (pos 1) f in
    let start = pos (c.in-Some.start + 1) in
    let found : slice_get ms 0 ≡ Some start = simp to_z-of_z at c.in-Some.ensures.found in
    let counted : c.count_moved.result ≡ length ms = simp to_z-of_z at c.count_moved.ensures.exact in
    let ahead : NotBack f start c.count_moved.result = simp to_z-of_z at c.in-Some-walk.ensures.goes_on in
    sym (tour_from f ms start found ∙ goes_through f c.requires.different start (length ms) (subst (NotBack f start) counted ahead))
