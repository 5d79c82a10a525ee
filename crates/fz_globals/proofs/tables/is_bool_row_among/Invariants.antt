use Rattle.std.proofs.Common.{◌≡◌, ◌*◌, drop, length}
use Rattle.std.specs.List.{list_any}
use Rattle.fz_kernel.specs.of_meaning.Relations.{◌=ᴮ◌, is_row_of, is_same_list, rows_of}
use Rattle.fz_kernel.specs.Views.{bools}
use Rattle.fz_globals.proofs.tables.is_bool_row_among.Given as goal

abbrev pub invariant-loop-row : goal.invariant-loop-row
invariant-loop-row l =
    let xs = bools l.elements in
    is_row_of ◌=ᴮ◌ xs (bools l.table) ≡ list_any (is_same_list ◌=ᴮ◌ xs) (rows_of (length xs) (drop (l.row * length xs) (bools l.table)))
