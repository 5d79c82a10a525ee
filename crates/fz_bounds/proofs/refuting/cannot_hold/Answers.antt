use Rattle.std.proofs.Common.{◌∙◌, sym}
use Rattle.fz_model.proofs.Under.{never_fails}
use Rattle.fz_bounds.proofs.Inside.{fixed_under}
use Rattle.fz_bounds.proofs.refuting.cannot_hold.Goals as goal

pub returns-in-Fails : goal.returns-in-Fails
returns-in-Fails c = record {
  never = λ is_true p here A inside holds. never_fails A c.fixed.result.now p (fixed_under c.args.bounds.now c.fixed.result.now A c.fixed.ensures inside) holds (sym (c.in_ok-found.ensures.exact p here) ∙ c.in-Fails.is);
}
