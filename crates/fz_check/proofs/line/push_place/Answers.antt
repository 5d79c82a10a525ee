use Rattle.fz_check.proofs.Appending.{three_pieces}
use Rattle.fz_check.proofs.line.push_place.Goals as goal

pub returns-in_ok-push_bytes-in-Behind-2 : goal.returns-in_ok-push_bytes-in-Behind-2
returns-in_ok-push_bytes-in-Behind-2 c =
    rw c.in-Behind.is (three_pieces _ _ _ _ _ _ _ c.in_ok-push_bytes-in-Behind.ensures c.in_ok-push_count-in-Behind.ensures c.in_ok-push_bytes-in-Behind-2.ensures)
