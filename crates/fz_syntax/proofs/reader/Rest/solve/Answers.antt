use Rattle.std.proofs.Common.{◌≡◌, ◌∙◌, sym, subst}
use Rattle.std.proofs.lemmas.Result.{err_from_is_err_and}
use Rattle.fz_tree.specs.Left.{source_of}
use Rattle.fz_tree.specs.Lexing.{LexesWithin}
use Rattle.fz_syntax.specs.Offering.{from_solve}
use Rattle.fz_syntax.proofs.Offers.{left_refused, lexer_refused, more_refused, solve_left, some_left, none_left}
use Rattle.fz_syntax.proofs.reader.Rest.solve.Goals as goal

pub returns-in-Err-clause-refused : goal.returns-in-Err-clause-refused
returns-in-Err-clause-refused c = left_refused from_solve c.args.self c.in-Err.refusal c.refused.result c.requires c.in-Err.ensures.read (c.refused.ensures c.requires.short (c.in-Err.ensures.walked.end ∙ c.requires.ends))

pub returns-then-is_some-clause-refused : goal.returns-then-is_some-clause-refused
returns-then-is_some-clause-refused c =
    more_refused c.in-Ok.item c.args.self c.unexpected.result c.refused-then-is_some.result _ c.in-Ok.ensures.read
    (some_left c.first.result c.solve.new.self (sym c.is_some.ensures ∙ c.if-is_some.true) c.first.ensures.some) c.requires
    (c.refused-then-is_some.ensures c.requires.short (c.in-Ok.ensures.walked.on.end ∙ c.requires.ends))

pub returns-clause-left : goal.returns-clause-left
returns-clause-left c =
    let same : source_of c.solve.new.self.tokens ≡ c.args.self.source.now = c.in-Ok.ensures.walked.on.same_source ∙ c.requires.of_source in
    solve_left c.in-Ok.item c.args.self c.solve.new.self c.in-Ok.ensures.read
    (none_left c.first.result c.solve.new.self (sym c.is_some.ensures ∙ c.if-is_some.false) c.first.ensures.none) c.in-Ok.ensures.walked
    (rw same at c.in_ok-finish.ensures.lexes) (rw same at c.in_ok-finish.ensures.numbers) c.requires

pub returns-in_err-finish-clause-refused : goal.returns-in_err-finish-clause-refused
returns-in_err-finish-clause-refused c =
    let p = err_from_is_err_and c.from_residual.result c.from_residual.ensures.1 in
    let same : source_of c.solve.new.self.tokens ≡ c.args.self.source.now = c.in-Ok.ensures.walked.on.same_source ∙ c.requires.of_source in
    let limits = c.args.self.limits in
    let told = c.in_err-finish.ensures in
    rw (p.1, p.2) (lexer_refused limits _ _ (rw same at (told.refused limits)) (λ tokens lexes. let ok = told.only limits tokens (subst (λ source. LexesWithin limits source tokens) (sym same) lexes) in absurd cc) (rw same at told.placed))
