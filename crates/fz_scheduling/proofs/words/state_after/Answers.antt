use Rattle.std.proofs.Common.{◌≡◌, ◌<◌, pos, drop, length, take, FitsSigned, w64, to_z, sym, ap, ◌∙◌, arith, rules}
use Rattle.std.proofs.lemmas.Int.{to_z-of_z}
use Rattle.std.proofs.lemmas.List.{get_or-take, length-take-le}
use Rattle.fz_kernel.specs.of_meaning.Relations.{run, step}
use Rattle.fz_kernel.specs.Views.{ints}
use Rattle.fz_scheduling.specs.Places.{number_at}
use Rattle.fz_scheduling.proofs.Followed.{stuck, goes_on}
use Rattle.fz_scheduling.proofs.Zipped.{next_number}
use Rattle.fz_scheduling.proofs.words.state_after.Goals as goal

pub returns-in-None : goal.returns-in-None
returns-in-None c =
    let states = c.args.states in
    let symbols = c.args.symbols in
    let d = ints c.args.transitions.now in
    let xs = take c.args.count (ints c.args.xs.now) in
    let counted : length xs ≡ c.args.count = length-take-le c.args.count (ints c.args.xs.now) c.requires in
    let i = c.loop-place.place in
    let q = to_z w64 c.loop-place.state-bits in
    let fits_states : FitsSigned w64 states = c.ranges.states in
    let fits_symbols : FitsSigned w64 symbols = c.ranges.symbols in
    let fits_from : FitsSigned w64 c.args.from = c.ranges.from in
    let fits_q : FitsSigned w64 q = search rules in
    let fits_x : FitsSigned w64 c.number_at.result = search rules in
    let so_far : run states symbols d c.args.from xs ≡ run states symbols d q (drop i xs) = simp to_z-of_z at c.loop-place.invariant in
    let stepped : c.next_state.result ≡ step states symbols d q c.number_at.result = simp to_z-of_z at c.next_state.ensures.exact in
    let inside : i < length xs = omega arith in
    let there : c.number_at.result ≡ number_at xs i = c.number_at.ensures ∙ sym (get_or-take c.args.count (ints c.args.xs.now) i (pos 0) (omega arith)) in
    record {
      exact = stuck states symbols d xs i q (number_at xs i) (run states symbols d c.args.from xs) so_far (next_number xs i inside)
          (ap (step states symbols d q) (sym there) ∙ sym stepped ∙ c.in-None.is);
    }

pub loop-place-preserved : goal.loop-place-preserved
loop-place-preserved c =
    let states = c.args.states in
    let symbols = c.args.symbols in
    let d = ints c.args.transitions.now in
    let xs = take c.args.count (ints c.args.xs.now) in
    let counted : length xs ≡ c.args.count = length-take-le c.args.count (ints c.args.xs.now) c.requires in
    let i = c.loop-place.place in
    let q = to_z w64 c.loop-place.state-bits in
    let fits_states : FitsSigned w64 states = c.ranges.states in
    let fits_symbols : FitsSigned w64 symbols = c.ranges.symbols in
    let fits_from : FitsSigned w64 c.args.from = c.ranges.from in
    let fits_q : FitsSigned w64 q = search rules in
    let fits_x : FitsSigned w64 c.number_at.result = search rules in
    let fits_next : FitsSigned w64 c.in-Some.next = search rules in
    let so_far : run states symbols d c.args.from xs ≡ run states symbols d q (drop i xs) = simp to_z-of_z at c.loop-place.invariant in
    let stepped : c.next_state.result ≡ step states symbols d q c.number_at.result = simp to_z-of_z at c.next_state.ensures.exact in
    let inside : i < length xs = omega arith in
    let there : c.number_at.result ≡ number_at xs i = c.number_at.ensures ∙ sym (get_or-take c.args.count (ints c.args.xs.now) i (pos 0) (omega arith)) in
    simp to_z-of_z (goes_on states symbols d xs i q (number_at xs i) (run states symbols d c.args.from xs) so_far (next_number xs i inside) c.in-Some.next
    (ap (step states symbols d q) (sym there) ∙ sym stepped ∙ c.in-Some.is))
