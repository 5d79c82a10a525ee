use Rattle.std.proofs.Common.{◌≡◌, ◌↔◌, negsuc, true, FitsSigned, w64}
use Rattle.std.proofs.lemmas.Int.{to_z-of_z}
use Rattle.fz_builtins.specs.of_meaning.of_base.Elements.{LiesWithin}
use Rattle.fz_reasons.proofs.SetRows.{some_more}
use Rattle.fz_reasons.proofs.members.has_more.Goals as goal

pub returns : goal.returns
returns c =
    let n = c.args.number in
    let s = c.args.set.now in
    let fits : FitsSigned w64 n = c.ranges.number in
    let told : c.within.result ≡ true ↔ LiesWithin (negsuc 9223372036854775807) n s = simp to_z-of_z at c.within.ensures.exact in
    some_more s n c.within.result told c.within.ensures.fits
