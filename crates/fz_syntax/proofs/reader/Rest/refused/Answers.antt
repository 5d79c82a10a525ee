use Rattle.std.proofs.Common.{sym, subst}
use Rattle.fz_tree.specs.Lexing.{LexesWithin}
use Rattle.fz_syntax.specs.Offering.{by_lexer}
use Rattle.fz_syntax.proofs.reader.Rest.refused.Goals as goal

pub returns-in-Err : goal.returns-in-Err
returns-in-Err c = λ short end.
    let same = c.new.ensures.source in
    let limits = c.args.self.now.limits in
    by_lexer (rw same at (c.in-Err.ensures.refused limits)) (λ tokens lexes. let ok = c.in-Err.ensures.only limits tokens (subst (λ source. LexesWithin limits source tokens) (sym same) lexes) in absurd cc) (rw same at c.in-Err.ensures.placed)
