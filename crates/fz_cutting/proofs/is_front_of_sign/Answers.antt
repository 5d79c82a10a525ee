use Rattle.std.proofs.Common.{◌∙◌, ap, nat_eq, sym}
use Rattle.std.specs.List.{list_any, starts_with}
use Rattle.fz_cutting.proofs.Lists.{any_mapped}
use Rattle.fz_cutting.proofs.is_front_of_sign.Goals as goal

pub returns : goal.returns
returns c =
    let line = c.args.line.now in
    c.begins_any.ensures
    ∙ sym (any_mapped (λ s. starts_with nat_eq s line) (λ s. s.now) c.signs.result.now)
    ∙ ap (list_any (λ s. starts_with nat_eq s line)) c.signs.ensures
