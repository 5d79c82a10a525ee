use Rattle.std.proofs.Common.{◌<◌, length, not, option_map, sym, ap, ◌∙◌, arith}
use Rattle.fz_index.specs.of_model.Meaning.{points}
use Rattle.fz_index.specs.of_model.Shown.{point_name}
use Rattle.fz_filling.specs.View.{reason_view}
use Rattle.fz_filling.proofs.Lists.{not_some, seen_is_some}
use Rattle.fz_filling.proofs.Verdicts.{all_held, held_passes, held_decided, point_violates, point_passes, reason_here, reason_before}
use Rattle.fz_filling.proofs.points.points_verdict.Goals.{then-is_none, else-is_none}
use Rattle.fz_filling.proofs.points.points_verdict.Goals as goal

pub returns-then-branch : goal.returns-then-branch
returns-then-branch c = all_held c.args.model.now c.args.partial.now (sym c.in_ok-all_hold.ensures.exact ∙ c.if-branch.true)

pub returns-then-is_failed : goal.returns-then-is_failed
returns-then-is_failed c =
    let within : c.loop-number.number < length (points c.args.model.now) = omega (arith, c.points-number-end.ensures.counted, c.loop-number-test.true) in
    point_violates c.args.model.now c.args.partial.now c.loop-number.number c.in_ok-found.found (point_name c.point-point.result) within c.in_ok-found.ensures.exact c.point-point.ensures.told _ c.loop-number.invariant.none_fails (sym c.is_failed.ensures ∙ c.if-is_failed.true) c.fault_named.ensures

pub loop-number-preserved-then-is_held : goal.loop-number-preserved-then-is_held
loop-number-preserved-then-is_held c =
    let within : c.loop-number.number < length (points c.args.model.now) = omega (arith, c.points-number-end.ensures.counted, c.loop-number-test.true) in
    let held = sym c.is_held.ensures ∙ c.if-is_held.true in
    record {
      none_fails = held_passes c.args.model.now c.args.partial.now c.loop-number.number c.in_ok-found.found within c.in_ok-found.ensures.exact held c.loop-number.invariant.none_fails;
      undecided = held_decided c.args.model.now c.args.partial.now c.loop-number.number c.in_ok-found.found within c.in_ok-found.ensures.exact held _ c.loop-number.invariant.undecided;
    }

pub loop-number-preserved : goal.loop-number-preserved
loop-number-preserved c =
    let within : c.loop-number.number < length (points c.args.model.now) = omega (arith, c.points-number-end.ensures.counted, c.loop-number-test.true) in
    record {
      none_fails = point_passes c.args.model.now c.args.partial.now c.loop-number.number c.in_ok-found.found (point_name c.point-point.result) within c.in_ok-found.ensures.exact c.point-point.ensures.told c.loop-number.invariant.none_fails (sym c.is_failed.ensures ∙ c.if-is_failed.false);
      undecided = elim c.if-is_none.branch [
        | then-is_none w ↦
            ap (option_map reason_view) w.reason-is
            ∙ reason_here c.args.model.now c.args.partial.now c.loop-number.number c.in_ok-found.found (point_name c.point-point.result) within c.in_ok-found.ensures.exact c.point-point.ensures.told _
            (sym c.loop-number.invariant.undecided ∙ ap (option_map reason_view) (not_some c.loop-number.reason (c.is_none.ensures ∙ ap not w.if-is_none.true))) w.undecided-reason.ensures
        | else-is_none w ↦
            ap (option_map reason_view) w.reason-is ∙ c.loop-number.invariant.undecided
            ∙ reason_before c.args.model.now c.args.partial.now c.loop-number.number c.in_ok-found.found (point_name c.point-point.result) within c.in_ok-found.ensures.exact c.point-point.ensures.told
            (seen_is_some reason_view _ _ _ c.loop-number.invariant.undecided (c.is_none.ensures ∙ ap not w.if-is_none.false))
      ];
    }
