use Rattle.std.proofs.Common.{◌≡◌, ◌<◌, List, option_map, ℤ, length, sym, ap, arith}
use Rattle.std.specs.List.{list_all}
use Rattle.fz_kernel.specs.of_meaning.Relations.{total, lies_between}
use Rattle.fz_kernel.specs.Views.{ints}
use Rattle.fz_scheduling.specs.Places.{terms}
use Rattle.fz_scheduling.proofs.Terms.{terms_counted}
use Rattle.fz_scheduling.proofs.Windowed.{too_short}
use Rattle.fz_scheduling.proofs.slides.all_lie_between.Goals as goal

pub returns-then-number_count-width : goal.returns-then-number_count-width
returns-then-number_count-width c =
    let o = option_map (λ s. s.now) c.args.counted in
    let xs = terms o (ints c.args.xs.now) in
    let counted : length xs ≡ length (ints c.args.xs.now) = terms_counted o (ints c.args.xs.now) in
    let short : length xs < c.args.width = omega arith in
    sym (ap (list_all (λ (w : List ℤ). lies_between c.args.low c.args.high (total w))) (too_short c.args.width xs short))
