use Rattle.std.proofs.Common.{◌≡◌, pos, option_map, FitsSigned, w64, ap, sym, ◌∙◌, arith}
use Rattle.std.proofs.lemmas.Int.{ints as numerals, to_z-of_z}
use Rattle.fz_kernel.specs.of_meaning.Relations.{lies_between, slides_between}
use Rattle.fz_kernel.specs.Views.{ints}
use Rattle.fz_scheduling.specs.Places.{terms}
use Rattle.fz_scheduling.proofs.Windowed.{runs_of_none}
use Rattle.fz_scheduling.proofs.slides.slides_between.Goals as goal

pub returns-then-width-eq0 : goal.returns-then-width-eq0
returns-then-width-eq0 c =
    let low = c.args.low in
    let high = c.args.high in
    let xs = terms (option_map (λ s. s.now) c.args.counted) (ints c.args.xs.now) in
    let fits_low : FitsSigned w64 low = c.ranges.low in
    let fits_high : FitsSigned w64 high = c.ranges.high in
    let fits_width : FitsSigned w64 c.args.width = c.ranges.width in
    let none : c.args.width ≡ pos 0 = grind (arith, numerals) in
    let told : c.is_between.result ≡ lies_between low high (pos 0) = simp to_z-of_z at c.is_between.ensures in
    record { exact = told ∙ runs_of_none low high xs ∙ sym (ap (λ k. slides_between low high k xs) none) }
