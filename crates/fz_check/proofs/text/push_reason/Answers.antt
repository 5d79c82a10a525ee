use Rattle.std.proofs.Common.{rules, FitsSigned, w64, to_z-of_z}
use Rattle.fz_check.proofs.Appending.{three_pieces, four_pieces, five_pieces}
use Rattle.fz_check.proofs.text.push_reason.Goals as goal

pub returns-in_ok-push_bytes-in-Unknown-4 : goal.returns-in_ok-push_bytes-in-Unknown-4
returns-in_ok-push_bytes-in-Unknown-4 c =
    rw c.in-Unknown.is
    (five_pieces _ _ _ _ _ _ _ _ _ _ _ c.in_ok-push_bytes-in-Unknown.ensures c.in_ok-push_count-in-Unknown.ensures c.in_ok-push_bytes-in-Unknown-2.ensures c.in_ok-push_bytes-in-Unknown-3.ensures
    c.in_ok-push_bytes-in-Unknown-4.ensures)

pub returns-in_ok-push_bytes-in-TooLarge-2 : goal.returns-in_ok-push_bytes-in-TooLarge-2
returns-in_ok-push_bytes-in-TooLarge-2 c =
    rw c.in-TooLarge.is (three_pieces _ _ _ _ _ _ _ c.in_ok-push_bytes-in-TooLarge.ensures c.in_ok-push_count-in-TooLarge.ensures c.in_ok-push_bytes-in-TooLarge-2.ensures)

pub returns-in_ok-push_number-in-NotShownBetter-2 : goal.returns-in_ok-push_number-in-NotShownBetter-2
returns-in_ok-push_number-in-NotShownBetter-2 c =
    let now_fits : FitsSigned w64 c.in-NotShownBetter.now = search rules in
    let found_fits : FitsSigned w64 c.in-NotShownBetter.found = search rules in
    let now = simp to_z-of_z at c.in_ok-push_number-in-NotShownBetter.ensures in
    let found = simp to_z-of_z at c.in_ok-push_number-in-NotShownBetter-2.ensures in
    rw c.in-NotShownBetter.is (four_pieces _ _ _ _ _ _ _ _ _ c.in_ok-push_bytes-in-NotShownBetter.ensures now c.in_ok-push_bytes-in-NotShownBetter-2.ensures found)
