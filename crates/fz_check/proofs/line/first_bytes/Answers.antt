use Rattle.std.proofs.Common.{sym, arith}
use Rattle.std.proofs.lemmas.List.{take_all}
use Rattle.fz_check.specs.Report.{most_shown}
use Rattle.fz_check.proofs.line.first_bytes.Goals as goal

pub returns-then-text-lt-MOST_SHOWN : goal.returns-then-text-lt-MOST_SHOWN
returns-then-text-lt-MOST_SHOWN c =
    sym (take_all most_shown c.args.text.now (omega (arith, c.if-text-lt-MOST_SHOWN.true)))
