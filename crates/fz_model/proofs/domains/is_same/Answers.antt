use Rattle.std.proofs.Common.{◌≡◌, ap, ◌∙◌}
use Rattle.fz_builtins.specs.of_meaning.States.{same_value}
use Rattle.fz_builtins.proofs.of_meaning.Values.{same_truth, same_value_is, value_itself}
use Rattle.fz_model.proofs.domains.is_same.Goals as goal

pub returns : goal.returns
returns c =
    let v = c.args.left.now in
    let w = c.args.right.now in
    same_truth c.equals.result (same_value v w)
    (λ e. let same : v ≡ w = c.equals.ensures.0 e in ap (λ u. same_value u w) same ∙ value_itself w)
    (λ e. c.equals.ensures.1 (same_value_is v w e))
