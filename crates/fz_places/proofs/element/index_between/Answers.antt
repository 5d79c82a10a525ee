use Rattle.std.proofs.Common.{◌≡◌, FitsSigned, subst, sym}
use Rattle.std.specs.Int.{w64}
use Rattle.std.proofs.lemmas.Int.{to_z-of_z}
use Rattle.fz_meaning.specs.of_base.Sets.{count_between}
use Rattle.fz_places.proofs.Indices.{index_fits, index_here, index_is}
use Rattle.fz_places.proofs.element.index_between.Goals as goal

pub returns-clause-index : goal.returns-clause-index
returns-clause-index c =
    let from : c.from.result ≡ c.args.low = simp (to_z-of_z, c.ranges.low) at c.from.ensures in
    let count : c.count_between-count.result ≡ count_between c.args.low c.args.high = simp (to_z-of_z, c.ranges.low, c.ranges.high) at c.count_between-count.ensures in
    rw from (rw count (index_here c.args.low c.args.high c.args.place c.ranges.low c.ranges.high (rw count at c.if-count-eq0.false)))

pub returns-clause-fits : goal.returns-clause-fits
returns-clause-fits c =
    let from : c.from.result ≡ c.args.low = simp (to_z-of_z, c.ranges.low) at c.from.ensures in
    let count : c.count_between-count.result ≡ count_between c.args.low c.args.high = simp (to_z-of_z, c.ranges.low, c.ranges.high) at c.count_between-count.ensures in
    let some = rw count at c.if-count-eq0.false in
    rw from (rw count (subst (FitsSigned w64) (sym (index_is c.args.low c.args.high c.args.place c.ranges.low c.ranges.high some)) (index_fits c.args.low c.args.high c.args.place c.ranges.low c.ranges.high some)))
