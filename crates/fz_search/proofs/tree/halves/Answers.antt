use Rattle.std.proofs.Common.{arith}
use Rattle.std.proofs.lemmas.Int.{ints}
use Rattle.fz_search.proofs.Nodes.{parted, swapped}
use Rattle.fz_search.proofs.tree.halves.Goals as goal

pub returns-then-upper_first : goal.returns-then-upper_first
returns-then-upper_first c = λ B n ends A inside.
    swapped (parted B n c.args.ends ends _ _ _ _ (omega (arith, ints)) (omega (arith, ints)) (omega (arith, ints)) A inside)

pub returns-else-upper_first : goal.returns-else-upper_first
returns-else-upper_first c = λ B n ends A inside.
    parted B n c.args.ends ends _ _ _ _ (omega (arith, ints)) (omega (arith, ints)) (omega (arith, ints)) A inside
