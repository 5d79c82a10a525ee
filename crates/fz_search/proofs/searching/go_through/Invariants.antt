use Rattle.std.specs.Prelude.{◌≡◌}
use Rattle.fz_search.proofs.searching.go_through.Given as goal

abbrev pub invariant-loop : goal.invariant-loop
invariant-loop l = l.tree ≡ l.fn.tree
