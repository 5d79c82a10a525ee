use Rattle.std.proofs.Common.{arith, rules}
use Rattle.std.proofs.lemmas.Int.{ints}
use Rattle.fz_bounds.proofs.Declared.{not_within}
use Rattle.fz_bounds.proofs.declarations.are_above.Goals as goal

pub returns-then-within : goal.returns-then-within
returns-then-within c = λ _ n high.
    not_within c.args.numbers.now _ _ n (c.within.ensures.exact.0 (search rules)) (λ f g. absurd (omega (arith, ints)))
