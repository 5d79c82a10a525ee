use Rattle.std.proofs.Common.{◌≡◌, ◌*◌, length, refl, sym, ap, ◌∙◌, arith}
use Rattle.fz_kernel.specs.of_meaning.Relations.{◌=ℤ◌, is_row_of, is_same_list}
use Rattle.fz_kernel.specs.Views.{ints, slots_of}
use Rattle.fz_kernel.proofs.Read.{ints_counted}
use Rattle.fz_globals.proofs.InTable.{whole_rows, row_fails}
use Rattle.fz_globals.proofs.tables.is_int_row_among.Goals as goal

pub loop-row-init : goal.loop-row-init
loop-row-init c =
    let xs = ints c.args.elements.now in
    let t = ints c.args.table.now in
    let width : length (slots_of c.args.elements.now) ≡ length xs = ints_counted c.args.elements.now (length (slots_of c.args.elements.now)) refl in
    let long : length (slots_of c.args.table.now) ≡ length t = ints_counted c.args.table.now (length (slots_of c.args.table.now)) refl in
    whole_rows ◌=ℤ◌ xs t c.args.rows (omega arith) (ap (λ n. c.args.rows * n) (sym width) ∙ c.requires.whole ∙ long)

pub loop-row-preserved : goal.loop-row-preserved
loop-row-preserved c =
    let xs = ints c.args.elements.now in
    let t = ints c.args.table.now in
    let width : length (slots_of c.args.elements.now) ≡ length xs = ints_counted c.args.elements.now (length (slots_of c.args.elements.now)) refl in
    let long : length (slots_of c.args.table.now) ≡ length t = ints_counted c.args.table.now (length (slots_of c.args.table.now)) refl in
    row_fails (is_same_list ◌=ℤ◌ xs) t (length xs) c.args.rows c.loop-row.row (omega arith) (ap (λ n. c.args.rows * n) (sym width) ∙ c.requires.whole ∙ long)
    (is_row_of ◌=ℤ◌ xs t) c.loop-row.invariant (omega arith) (c.loop-row.row * c.len.result) (ap (λ n. c.loop-row.row * n) (c.len.ensures.counted ∙ width))
    (sym c.ints_stand_at.ensures ∙ c.if-ints_stand_at.false)
