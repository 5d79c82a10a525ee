use Rattle.std.proofs.Common.{◌≡◌, false, true, subst, ◌∙◌}
use Rattle.std.specs.Prelude.{IfOk}
use Rattle.fz_model.proofs.Others.{all_in_range, apart}
use Rattle.fz_model.proofs.Valued.{seen_inside}
use Rattle.fz_model.proofs.holding.all_hold.Goals as goal

pub others_hold-requires : goal.others_hold-requires
others_hold-requires c = record { in_range = all_in_range c.args.model.now c.deref.result.now (c.deref.ensures.value ∙ c.requires.overview) }

pub returns-then-not-branch : goal.returns-then-not-branch
returns-then-not-branch c =
    let inside = seen_inside c.args.model.now c.args.partial.now _ _ _ c.variables.ensures.all c.values.ensures.all c.lie_inside.ensures c.if-not-lie_inside.false in
    record { exact = apart c.args.model.now c.deref.result.now (c.deref.ensures.value ∙ c.requires.overview) c.args.partial.now inside _ c.in_ok-others_hold.ensures false c.if-not-branch.true }

pub constraints_hold-requires : goal.constraints_hold-requires
constraints_hold-requires c = record {
  inside = seen_inside c.args.model.now c.args.partial.now _ _ _ c.variables.ensures.all c.values.ensures.all c.lie_inside.ensures c.if-not-lie_inside.false;
}

pub returns : goal.returns
returns c =
    let inside = seen_inside c.args.model.now c.args.partial.now _ _ _ c.variables.ensures.all c.values.ensures.all c.lie_inside.ensures c.if-not-lie_inside.false in
    record {
      exact = subst (λ t. IfOk c.constraints_hold.result (λ b. b ≡ t))
          (apart c.args.model.now c.deref.result.now (c.deref.ensures.value ∙ c.requires.overview) c.args.partial.now inside _ c.in_ok-others_hold.ensures true c.if-not-branch.false) c.constraints_hold.ensures;
    }
