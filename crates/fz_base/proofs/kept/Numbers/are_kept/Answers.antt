use Rattle.std.proofs.Common.{◌∙◌, sym}
use Rattle.fz_base.proofs.kept.Numbers.are_kept.Goals as goal

pub returns-in-Low-Low-Low : goal.returns-in-Low-Low-Low
returns-in-Low-Low-Low c = rw (c.in-Low-Low-Low.is-0, c.in-Low-Low-Low.is-1, c.in-Low-Low-Low.is-2) (
  λ e x. c.are_same.ensures.0 e x ∙ c.combine.ensures x,
  λ all. c.are_same.ensures.1 (λ x. all x ∙ sym (c.combine.ensures x)),
)
