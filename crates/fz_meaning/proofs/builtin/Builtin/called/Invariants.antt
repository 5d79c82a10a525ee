use Rattle.std.proofs.Common.{◌≡◌, bytes_eq, find, drop}
use Rattle.fz_meaning.proofs.builtin.Builtin.called.Given as goal

abbrev pub invariant-loop-own : goal.invariant-loop-own
invariant-loop-own l = find (λ n. bytes_eq n.0.now l.name) (drop l.own-index l.own-items) ≡ find (λ n. bytes_eq n.0.now l.name) l.own-items
