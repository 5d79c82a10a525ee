use Rattle.std.proofs.Common.{List, map, drop, IfSome}
use Rattle.fz_builtins.specs.of_meaning.of_base.declared.value.Value.{Value}
use Rattle.fz_builtins.specs.of_store.Slots.{slot_term}
use Rattle.fz_model.proofs.Opens.{SoFar, StandsAmong}
use Rattle.fz_model.proofs.only.open_slots.Given as goal

abbrev pub invariant-loop-place : goal.invariant-loop-place
invariant-loop-place l = record {
  seen : (cs : List Value) → SoFar l.partial l.target (map (slot_term cs) l.slots) (map (slot_term cs) (drop l.place l.slots)) l.found;
  stands : IfSome l.found (StandsAmong l.partial l.target l.slots);
}
