use Rattle.std.proofs.Common.{ℕ, ◌+◌, ◌<◌, sym, ap, subst, subst₂, arith, ◌∙◌}
use Rattle.std.proofs.lemmas.Option.{slice_get_within}
use Rattle.fz_index.specs.of_model.Aimed.{GivesNone}
use Rattle.fz_index.specs.of_model.Meaning.{IsPartial, points}
use Rattle.fz_index.specs.of_model.Partial.{unset_count}
use Rattle.fz_filling.specs.Givers.{AddsSteps}
use Rattle.fz_filling.specs.Stepping.{GivesNoneAt}
use Rattle.fz_filling.proofs.Furthering.{adds_joined, adds_nothing, none_up_to}
use Rattle.fz_filling.proofs.Running.{no_more_unset}
use Rattle.fz_filling.proofs.Stepping.{at_each}
use Rattle.fz_filling.specs.declared.completion.Completion.TheVariants.{On}
use Rattle.fz_filling.proofs.further.pass.Goals as goal
use Rattle.fz_filling.proofs.further.pass.Goals.{then-branch+in_ok-follow, else-branch}

pub loop-point-init : goal.loop-point-init
loop-point-init c = record {
  steps = adds_nothing On c.args.model.now c.args.partial.now c.args.steps.now;
  fits = c.requires.fits;
  fewer = λ e. cc;
  none = λ e j below. absurd (omega (arith, below));
}

pub loop-point-preserved : goal.loop-point-preserved
loop-point-preserved c =
    let m = c.args.model.now in
    let K = c.args.partial.now in
    let gs = c.args.steps.now in
    let before = c.loop-point.invariant in
    let stepped : AddsSteps On m K c.take_step.new.partial gs c.take_step.new.steps = adds_joined On m K c.loop-point.partial c.take_step.new.partial gs c.loop-point.steps c.take_step.new.steps before.steps c.in_ok-take_step.ensures.steps in
    elim c.if-branch.branch [
      | then-branch+in_ok-follow w ↦ record {
        steps = subst₂ (λ L hs. AddsSteps On m K L gs hs) (sym w.partial-is) (sym w.steps-is) (adds_joined On m K c.take_step.new.partial w.follow.new.partial gs c.take_step.new.steps w.follow.new.steps stepped w.in_ok-follow.ensures.steps);
        fits = subst (IsPartial m) (sym w.partial-is) w.in_ok-follow.ensures.kinds;
        fewer = λ _.
            let less = c.in_ok-take_step.ensures.fewer w.if-branch.true in
            let later = no_more_unset On m w.in_ok-follow.ensures.steps.1 c.in_ok-take_step.ensures.kinds in
            let first = no_more_unset On m before.steps.1 c.requires.fits in
            let same = ap unset_count w.partial-is in
            omega (arith, less, later, first, same);
        none = λ e. absurd (let both = sym w.took-is ∙ e in cc);
      }
      | else-branch w ↦
          let none = c.in_ok-take_step.ensures.none w.if-branch.false in
          record {
            steps = subst₂ (λ L hs. AddsSteps On m K L gs hs) (sym w.partial-is) (sym w.steps-is) stepped;
            fits = subst (IsPartial m) (sym w.partial-is) c.in_ok-take_step.ensures.kinds;
            fewer = λ e.
                let less = before.fewer (sym w.took-is ∙ e) in
                let same = ap unset_count w.partial-is in
                let still = ap unset_count none.0 in
                omega (arith, less, same, still);
            none = λ e. subst (λ L. (j : ℕ) → j < c.loop-point.point + 1 → GivesNoneAt On m L j) (sym w.partial-is)
                (none_up_to On m c.take_step.new.partial c.loop-point.point (λ j less. subst (λ L. GivesNoneAt On m L j) (sym none.0) (before.none (sym w.took-is ∙ e) j less)) none.1);
          }
    ]

pub returns-clause-none : goal.returns-clause-none
returns-clause-none c = λ e. at_each (GivesNone c.args.model.now c.loop-point.partial) (points c.args.model.now) (λ j p at.
    let within = slice_get_within (points c.args.model.now) j p at in
    let below : j < c.loop-point.point = omega (arith, within, c.points-point-end.ensures.counted, c.loop-point-test.false) in
    c.loop-point.invariant.none e j below p at)
