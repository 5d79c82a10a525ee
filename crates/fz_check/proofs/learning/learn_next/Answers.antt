use Rattle.std.proofs.Common.{Result, Ok, Err, OnOk}
use Rattle.fz_filling.specs.of_stream.Lending.{part_of}
use Rattle.fz_check.proofs.learning.learn_next.Goals as goal

-- what holds whatever the result
always : {T E P : Type 0} (r : Result T E) → P → OnOk r P
always (Ok x) p = p
always (Err e) p = tt

pub returns-clause-read : goal.returns-clause-read
returns-clause-read g c = λ limits left given before frame n. (part_of c.in-Ok.part, c.in-Ok.ensures.part limits left given before frame n)

pub returns-in-Block-clause-read : goal.returns-in-Block-clause-read
returns-in-Block-clause-read g c =
    always c.learn_block.result (λ limits left given before frame n. (part_of c.in-Ok.part, c.in-Ok.ensures.part limits left given before frame n))
