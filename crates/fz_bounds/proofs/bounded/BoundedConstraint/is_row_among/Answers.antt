use Rattle.std.proofs.Common.{◌≡◌, ℕ, ◌*◌, ◌<◌, ◌≤◌, [], drop, false, length, refl, sym, ap, ◌∙◌, ◌+◌, arith}
use Rattle.std.proofs.lemmas.Nat.{mul-add-lt}
use Rattle.std.specs.List.{list_any}
use Rattle.fz_model.specs.Relations.{◌=ℤ◌, is_row_of, is_same_list, rows_of}
use Rattle.fz_model.specs.of_builtins.of_kernel.Given.{ints_at, slots_at}
use Rattle.fz_model.proofs.of_builtins.of_kernel.Left.{none_left}
use Rattle.fz_model.proofs.of_builtins.of_globals.InTable.{row_fails, whole_rows}
use Rattle.fz_bounds.specs.Within.{given}
use Rattle.fz_bounds.proofs.Lists.{numbers_counted}
use Rattle.fz_bounds.proofs.bounded.BoundedConstraint.is_row_among.Goals as goal

pub overflow_mul-row : goal.overflow_mul-row
overflow_mul-row c =
    let more : c.loop-row.row < c.args.rows = omega arith in
    let less = mul-add-lt c.loop-row.row c.args.width 0 c.args.rows more c.requires.wide in
    let whole : c.args.rows * c.args.width ≡ c.args.size = c.requires.whole in
    omega (arith, c.ranges.size.fits)

pub loop-row-init : goal.loop-row-init
loop-row-init c = λ K f g.
    let xs = given c.args.self.now in
    let width : c.args.width ≡ length (ints_at K xs 0) = numbers_counted K xs 0 c.args.width c.requires.columns in
    let long : c.args.size ≡ length (ints_at K xs 1) = numbers_counted K xs 1 c.args.size c.requires.counted in
    let wide : 0 < c.args.width = c.requires.wide in
    whole_rows ◌=ℤ◌ (ints_at K xs 0) (ints_at K xs 1) c.args.rows (omega arith) (ap (λ n. c.args.rows * n) (sym width) ∙ c.requires.whole ∙ long)

pub loop-row-preserved : goal.loop-row-preserved
loop-row-preserved c = λ K f g.
    let xs = given c.args.self.now in
    let ns = ints_at K xs 0 in
    let ts = ints_at K xs 1 in
    let width : c.args.width ≡ length (ints_at K xs 0) = numbers_counted K xs 0 c.args.width c.requires.columns in
    let long : c.args.size ≡ length (ints_at K xs 1) = numbers_counted K xs 1 c.args.size c.requires.counted in
    let wide : 0 < c.args.width = c.requires.wide in
    row_fails (is_same_list ◌=ℤ◌ ns) ts (length ns) c.args.rows c.loop-row.row (omega arith) (ap (λ n. c.args.rows * n) (sym width) ∙ c.requires.whole ∙ long)
    (is_row_of ◌=ℤ◌ ns ts) (c.loop-row.invariant K f g) (omega arith) (c.loop-row.row * c.args.width) (ap (λ n. c.loop-row.row * n) width)
    (c.may_stand_at.ensures c.if-may_stand_at.false K f g)

pub returns : goal.returns
returns c = λ K f g.
    let xs = given c.args.self.now in
    let ns = ints_at K xs 0 in
    let ts = ints_at K xs 1 in
    let i = c.loop-row.row in
    let width : c.args.width ≡ length (ints_at K xs 0) = numbers_counted K xs 0 c.args.width c.requires.columns in
    let long : c.args.size ≡ length (ints_at K xs 1) = numbers_counted K xs 1 c.args.size c.requires.counted in
    let wide : 0 < c.args.width = c.requires.wide in
    let whole : c.args.rows * length ns ≡ length ts = ap (λ n. c.args.rows * n) (sym width) ∙ c.requires.whole ∙ long in
    let all : i ≡ c.args.rows = omega arith in
    let ended : drop (i * length ns) ts ≡ [] = none_left ts (i * length ns) (past (length ts) (i * length ns) (ap (λ n. n * length ns) all ∙ whole)) in
    c.loop-row.invariant K f g ∙ ap (λ l. list_any (is_same_list ◌=ℤ◌ ns) (rows_of (length ns) l)) ended
  where
    past : (m n : ℕ) → n ≡ m → m ≤ n
    past m n e = omega arith
