use Rattle.std.proofs.Common.{sym, ◌∙◌, arith}
use Rattle.fz_builtins.specs.of_meaning.Meaning.{points}
use Rattle.fz_builtins.specs.of_store.Shown.{point_view}
use Rattle.fz_model.proofs.Others.{passed_domain, noted_other}
use Rattle.fz_model.proofs.overview.others.Goals as goal

pub loop-number-preserved-then-is_domain : goal.loop-number-preserved-then-is_domain
loop-number-preserved-then-is_domain c = record {
  within = omega (arith, c.loop-number-test.true);
  listed = passed_domain (points c.args.model.now) c.loop-number.number (point_view c.point_parts.result) c.point_parts.ensures.parts c.loop-number.others.items c.loop-number.invariant.listed
      (sym c.is_domain.ensures ∙ c.if-is_domain.true);
}

pub loop-number-preserved : goal.loop-number-preserved
loop-number-preserved c = record {
  within = omega (arith, c.loop-number-test.true);
  listed = c.in_ok-push.ensures.items
      ∙ noted_other (points c.args.model.now) c.loop-number.number (point_view c.point_parts.result) c.point_parts.ensures.parts c.loop-number.others.items c.loop-number.invariant.listed
      (sym c.is_domain.ensures ∙ c.if-is_domain.false);
}
