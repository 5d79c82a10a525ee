use Rattle.std.proofs.Common.{◌≡◌, ◌∙◌, ℤ, IfOk, Result, Ok, Err}
use Rattle.std.specs.Global.{Vec}
use Rattle.std.specs.FinSet as set
use Rattle.fz_base.specs.Keeping.{has}
use Rattle.fz_base.specs.Ranges.{covers}
use Rattle.fz_base.specs.Sets.{NumberSet}
use Rattle.fz_base.specs.declared.kept.Numbers.{Numbers}
use Rattle.fz_base.specs.declared.ranges.Range.{Range}
use Rattle.fz_base.proofs.sets.IntSet.ranges.Goals as goal

covered : {E : Type 0} (n : Numbers) (s : NumberSet) → ((x : ℤ) → has n x ≡ set.contains s x)
    → (r : Result (Vec Range) E)
    → IfOk r (λ v. (x : ℤ) → covers v.items x ≡ has n x) → IfOk r (λ v. (x : ℤ) → covers v.items x ≡ set.contains s x)
covered n s same (Ok v) h = λ x. h x ∙ same x
covered n s same (Err e) h = h

pub returns-clause-same : goal.returns-clause-same
returns-clause-same c = covered c.kept.result.now c.args.self.now c.kept.ensures.seen c.ranges-2.result c.ranges-2.ensures.same
