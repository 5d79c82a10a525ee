use Rattle.std.proofs.Common.{rules, FitsSigned, w64, to_z-of_z}
use Rattle.fz_check.proofs.Appending.{two_pieces, four_pieces}
use Rattle.fz_check.proofs.text.push_fault.Goals as goal

pub returns-in_ok-push_bytes-in-Definition-2 : goal.returns-in_ok-push_bytes-in-Definition-2
returns-in_ok-push_bytes-in-Definition-2 c = rw c.in-Definition.is (two_pieces _ _ _ _ _ c.in_ok-push_bytes-in-Definition.ensures c.in_ok-push_bytes-in-Definition-2.ensures)

pub returns-in_ok-push_bytes-in-Constraint-3 : goal.returns-in_ok-push_bytes-in-Constraint-3
returns-in_ok-push_bytes-in-Constraint-3 c =
    rw c.in-Constraint.is
    (four_pieces _ _ _ _ _ _ _ _ _ c.in_ok-push_bytes-in-Constraint.ensures c.in_ok-push_count-in-Constraint.ensures c.in_ok-push_bytes-in-Constraint-2.ensures c.in_ok-push_bytes-in-Constraint-3.ensures)

pub returns-in_ok-push_number-in-NotBetter-2 : goal.returns-in_ok-push_number-in-NotBetter-2
returns-in_ok-push_number-in-NotBetter-2 c =
    let now_fits : FitsSigned w64 c.in-NotBetter.now = search rules in
    let before_fits : FitsSigned w64 c.in-NotBetter.before = search rules in
    let now = simp to_z-of_z at c.in_ok-push_number-in-NotBetter.ensures in
    let before = simp to_z-of_z at c.in_ok-push_number-in-NotBetter-2.ensures in
    rw c.in-NotBetter.is (four_pieces _ _ _ _ _ _ _ _ _ c.in_ok-push_bytes-in-NotBetter.ensures now c.in_ok-push_bytes-in-NotBetter-2.ensures before)
