use Rattle.std.proofs.Common.{IfOk, subst}
use Rattle.fz_search.specs.Found.{IsFoundFor}
use Rattle.fz_search.proofs.searching.go.Goals as goal

pub returns : goal.returns
returns c = record {
  found = subst (λ q. IfOk c.go_from.result (IsFoundFor q)) c.in_ok-tree.ensures c.go_from.ensures.found;
}
