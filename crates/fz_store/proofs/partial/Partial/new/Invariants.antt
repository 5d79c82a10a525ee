use Rattle.std.proofs.Common.{◌≡◌, None, map, take}
use Rattle.fz_meaning.specs.Meaning.{variables_of}
use Rattle.fz_store.proofs.partial.Partial.new.Given as goal

abbrev pub invariant-loop : goal.invariant-loop
invariant-loop l = l.values.items ≡ map (λ x. None) (take l.counter (variables_of l.model))
