use Rattle.std.proofs.Common.{◌≡◌, pos, ◌*ℤ◌, false, int_le, true, FitsSigned, IfSome, of_z, subst, sym, to_z, w64, arith, rules}
use Rattle.std.proofs.lemmas.Int.{ints, to_z-of_z}
use Rattle.fz_bounds.proofs.Ranges.{product_high, product_high_of_low, product_low, product_low_of_high}
use Rattle.fz_bounds.proofs.range.Range.times.Goals as goal

pub returns-then-coefficient-ge0 : goal.returns-then-coefficient-ge0
returns-then-coefficient-ge0 c = λ a f.
    let k = to_z w64 (of_z w64 c.args.coefficient) in
    let fits : FitsSigned w64 c.args.coefficient = search rules in
    let same : k ≡ c.args.coefficient = to_z-of_z w64 c.args.coefficient fits in
    let p : int_le (pos 0) c.args.coefficient ≡ true = grind (arith, ints) in
    let q : int_le (pos 0) k ≡ true = subst (λ z. int_le (pos 0) z ≡ true) (sym same) p in
    subst (λ z. IfSome c.multiplied-low.result (λ l. int_le l (z *ℤ a) ≡ true) × IfSome c.multiplied-high.result (λ h. int_le (z *ℤ a) h ≡ true)) same
    (product_low k c.args.self.low c.multiplied-low.result a q f.0 c.multiplied-low.ensures, product_high k c.args.self.high c.multiplied-high.result a q f.1 c.multiplied-high.ensures)

pub returns-else-coefficient-ge0 : goal.returns-else-coefficient-ge0
returns-else-coefficient-ge0 c = λ a f.
    let k = to_z w64 (of_z w64 c.args.coefficient) in
    let fits : FitsSigned w64 c.args.coefficient = search rules in
    let same : k ≡ c.args.coefficient = to_z-of_z w64 c.args.coefficient fits in
    let p : int_le (pos 0) c.args.coefficient ≡ false = grind (arith, ints) in
    let q : int_le (pos 0) k ≡ false = subst (λ z. int_le (pos 0) z ≡ false) (sym same) p in
    subst (λ z. IfSome c.multiplied-high.result (λ l. int_le l (z *ℤ a) ≡ true) × IfSome c.multiplied-low.result (λ h. int_le (z *ℤ a) h ≡ true)) same
    (product_low_of_high k c.args.self.high c.multiplied-high.result a q f.1 c.multiplied-high.ensures, product_high_of_low k c.args.self.low c.multiplied-low.result a q f.0 c.multiplied-low.ensures)
