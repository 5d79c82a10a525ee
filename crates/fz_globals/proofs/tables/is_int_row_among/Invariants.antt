use Rattle.std.proofs.Common.{◌≡◌, ◌*◌, drop, length}
use Rattle.std.specs.List.{list_any}
use Rattle.fz_kernel.specs.of_meaning.Relations.{◌=ℤ◌, is_row_of, is_same_list, rows_of}
use Rattle.fz_kernel.specs.Views.{ints}
use Rattle.fz_globals.proofs.tables.is_int_row_among.Given as goal

abbrev pub invariant-loop-row : goal.invariant-loop-row
invariant-loop-row l =
    let xs = ints l.elements in
    is_row_of ◌=ℤ◌ xs (ints l.table) ≡ list_any (is_same_list ◌=ℤ◌ xs) (rows_of (length xs) (drop (l.row * length xs) (ints l.table)))
