use Rattle.std.proofs.Common.{◌≡◌, None, take}
use Rattle.fz_index.specs.of_model.Meaning.{first_some}
use Rattle.fz_filling.specs.BlockFaults.{literal_fault}
use Rattle.fz_filling.proofs.faults.elements_fault.Given as goal

abbrev pub invariant-loop-literal : goal.invariant-loop-literal
invariant-loop-literal l = first_some (literal_fault l.kind) (take l.literal-index l.literals) ≡ None
