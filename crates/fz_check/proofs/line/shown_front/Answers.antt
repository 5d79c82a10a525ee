use Rattle.std.proofs.Common.{◌∙◌, ap, take}
use Rattle.std.specs.List.{take_while}
use Rattle.fz_check.specs.Report.{is_shown}
use Rattle.fz_check.proofs.line.shown_front.Goals as goal

pub returns : goal.returns
returns c =
    ap (λ n. take n c.first_bytes-front.result.now) c.shown_len.ensures
    ∙ ap (take_while is_shown) c.first_bytes-front.ensures
