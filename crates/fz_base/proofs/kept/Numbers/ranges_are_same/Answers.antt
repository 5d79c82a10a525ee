use Rattle.std.proofs.Common.{◌∙◌, sym}
use Rattle.fz_base.specs.Keeping.{held_ranges}
use Rattle.fz_base.proofs.SetRelations.{same_covered}
use Rattle.fz_base.proofs.kept.Numbers.ranges_are_same.Goals as goal

pub returns : goal.returns
returns c =
    let a = held_ranges c.held-a.result in
    let b = held_ranges c.held-b.result in
    let h = same_covered a b c.held-a.ensures.in_order c.held-b.ensures.in_order c.are_same.result (rw (c.ranges-2.ensures, c.ranges-3.ensures) at c.are_same.ensures) in (
      λ e x. sym (c.held-a.ensures.same x) ∙ h.0 e x ∙ c.held-b.ensures.same x,
      λ alike. h.1 (λ x. c.held-a.ensures.same x ∙ alike x ∙ sym (c.held-b.ensures.same x)),
    )
