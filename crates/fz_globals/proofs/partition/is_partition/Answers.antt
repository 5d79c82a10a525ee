use Rattle.std.proofs.Common.{◌≡◌, true, false, length, ap, sym, ◌∙◌, nat_eq, arith, rules}
use Rattle.fz_kernel.specs.of_meaning.Relations.{is_partition}
use Rattle.fz_kernel.specs.Views.{sets}
use Rattle.fz_kernel.proofs.Read.{sets_counted}
use Rattle.fz_globals.proofs.Parted.{takes_part, is_no_part, all_taken}
use Rattle.fz_globals.proofs.partition.is_partition.Goals as goal

pub returns-then-not-is_subset : goal.returns-then-not-is_subset
returns-then-not-is_subset c =
    let ss = sets c.args.parts.now in
    let failed : c.is_subset.result ≡ false = search rules in
    record {
      exact = is_no_part ss c.loop-place.place c.loop-place.left (is_partition ss c.args.whole.now) c.loop-place.invariant c.set-part.result.now c.set-part.ensures.read (sym c.is_subset.ensures ∙ failed);
    }

pub loop-place-preserved : goal.loop-place-preserved
loop-place-preserved c =
    let ss = sets c.args.parts.now in
    let passed : c.is_subset.result ≡ true = search rules in
    takes_part ss c.loop-place.place c.loop-place.left (is_partition ss c.args.whole.now) c.loop-place.invariant c.set-part.result.now c.set-part.ensures.read
    c.in_ok-left-2.left c.in_ok-left-2.ensures (sym c.is_subset.ensures ∙ passed)

pub returns : goal.returns
returns c =
    let ss = sets c.args.parts.now in
    let counted : c.len-place-end.result ≡ length ss = sets_counted c.args.parts.now c.len-place-end.result c.len-place-end.ensures.counted in
    record {
      exact = ap (λ n. nat_eq n 0) c.len.ensures.exact ∙ all_taken ss c.loop-place.place c.loop-place.left (is_partition ss c.args.whole.now) c.loop-place.invariant (omega arith);
    }
