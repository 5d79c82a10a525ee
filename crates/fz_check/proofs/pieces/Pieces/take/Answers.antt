use Rattle.std.proofs.Common.{◌≤◌, ap, sym, ◌∙◌, subst, length, drop}
use Rattle.fz_check.specs.Reading.{PiecesState}
use Rattle.fz_check.proofs.ReaderLemmas.{pending_left}
use Rattle.fz_check.proofs.pieces.Pieces.take.Goals as goal

pub returns-clause-left : goal.returns-clause-left
returns-clause-left c =
    let view = ap (λ (s : PiecesState). s.pending) c.self.view_is in
    pending_left c.self.inside.buffer c.self.inside.next c.self.inside.end c.args.n (subst (λ l. c.args.n ≤ length l) (sym view) c.requires) ∙ ap (drop c.args.n) view
