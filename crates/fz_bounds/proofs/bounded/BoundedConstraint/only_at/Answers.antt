use Rattle.std.proofs.Common.{◌≡◌, int_le, true, FitsSigned, sym, w64, ◌∙◌, arith, rules}
use Rattle.std.proofs.lemmas.Int.{ints, to_z-of_z}
use Rattle.fz_model.specs.of_builtins.of_kernel.Given.{ints_at}
use Rattle.fz_bounds.specs.Within.{given}
use Rattle.fz_bounds.proofs.Lists.{ints_in_order, only_between}
use Rattle.fz_bounds.proofs.bounded.BoundedConstraint.only_at.Goals as goal

pub returns-then-high-low : goal.returns-then-high-low
returns-then-high-low c = λ K h n at.
    let s = c.args.self.now in
    let i = c.args.index in
    let fits : FitsSigned w64 c.least-low.result = search rules in
    let above : int_le c.least-low.result n ≡ true = ints_in_order (ints_at s.lowest.now (given s) i) (ints_at K (given s) i) c.args.place c.least-low.result n h.low c.least-low.ensures at in
    let below : int_le n c.greatest-high.result ≡ true = ints_in_order (ints_at K (given s) i) (ints_at s.highest.now (given s) i) c.args.place n c.greatest-high.result h.high at c.greatest-high.ensures in
    only_between c.least-low.result c.greatest-high.result n (grind (arith, ints)) above below ∙ sym (to_z-of_z w64 c.least-low.result fits)
