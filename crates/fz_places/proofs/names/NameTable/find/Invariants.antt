use Rattle.std.proofs.Common.{◌≡◌, drop, map}
use Rattle.fz_places.specs.Tables.{row_named, row_of, rows_in}
use Rattle.fz_places.proofs.names.NameTable.find.Given as goal

abbrev pub invariant-loop-line : goal.invariant-loop-line
invariant-loop-line l = row_named l.name (rows_in l.self) ≡ row_named l.name (map row_of (drop l.line-index l.line-items))
