use Rattle.fz_filling.proofs.Violated.{violated_has_none, is_not_better}
use Rattle.fz_filling.proofs.laws.violated_have_none.Goals as goal

pub returns : goal.returns
returns c = λ completion m block F before f filled is other A solution extends.
    violated_has_none completion m block F before f filled is (λ h. let (now, earlier, e) = is_not_better f h in other now earlier e) A solution extends
