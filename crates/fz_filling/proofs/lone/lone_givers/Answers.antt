use Rattle.std.proofs.Common.{◌≡◌, length, arith}
use Rattle.fz_index.specs.of_model.Meaning.{points}
use Rattle.fz_index.specs.of_model.Shown.{point_view}
use Rattle.fz_filling.proofs.Noting.{lone_at_end, one_more}
use Rattle.fz_filling.proofs.lone.lone_givers.Goals as goal

pub loop-point-preserved : goal.loop-point-preserved
loop-point-preserved c =
    one_more c.args.model.now c.loop-point.givers.items c.note_all.new.givers.items c.loop-point.point (point_view c.point_parts.result) c.point_parts.ensures.parts c.loop-point.invariant c.note_all.ensures.kept
    (c.note_all.ensures.noted c.if-not-note_all.false)

pub returns : goal.returns
returns c =
    let end : c.loop-point.point ≡ length (points c.args.model.now) = omega (arith, c.loop-point-test.false, c.loop-point.auto, c.points-point-end.ensures.counted) in
    lone_at_end c.args.model.now c.loop-point.givers.items c.loop-point.point end c.loop-point.invariant
