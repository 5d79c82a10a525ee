use Rattle.std.proofs.Common.{◌≡◌, ◌*◌, drop, length}
use Rattle.std.specs.List.{list_any}
use Rattle.fz_model.specs.Meaning.{Partial}
use Rattle.fz_model.specs.Relations.{◌=ℤ◌, is_row_of, is_same_list, rows_of}
use Rattle.fz_model.specs.of_builtins.of_kernel.Given.{ints_at}
use Rattle.fz_bounds.specs.Within.{NumbersLie, given}
use Rattle.fz_bounds.proofs.bounded.BoundedConstraint.is_row_among.Given as goal

abbrev pub invariant-loop-row : goal.invariant-loop-row
invariant-loop-row l = (K : Partial) → NumbersLie l.self 0 K → NumbersLie l.self 1 K
    → is_row_of ◌=ℤ◌ (ints_at K (given l.self) 0) (ints_at K (given l.self) 1)
    ≡ list_any (is_same_list ◌=ℤ◌ (ints_at K (given l.self) 0)) (rows_of (length (ints_at K (given l.self) 0)) (drop (l.row * length (ints_at K (given l.self) 0)) (ints_at K (given l.self) 1)))
