use Rattle.std.proofs.Common.{Vec, Global, ◌∙◌, Ok, Err, sym, subst}
use Rattle.std.proofs.lemmas.Result.{err_from_is_err_and}
use Rattle.fz_tree.specs.declared.tree.Printed.{Printed}
use Rattle.fz_tree.specs.View.{bare_items}
use Rattle.fz_tree.specs.Ahead.{tokens_ahead}
use Rattle.fz_tree.specs.Lexing.{LexesWithin}
use Rattle.fz_syntax.specs.Placed.{placed_items}
use Rattle.fz_syntax.proofs.Parsed.{items_found, items_only, empty_of_only}
use Rattle.fz_syntax.proofs.More.{same_items}
use Rattle.fz_syntax.proofs.Whole.{grammar_refuses, lexer_refuses}
use Rattle.fz_syntax.proofs.Standing.{placed_in, stands_of}
use Rattle.fz_syntax.proofs.parser.read_items_within.Goals as goal

pub returns-in-Ok-clause-found : goal.returns-in-Ok-clause-found
returns-in-Ok-clause-found c =
    let same = c.in-Ok.ensures.walked.on.same_source ∙ c.new-parser.ensures.source in
    let lexes = rw same at c.in_ok-finish-in-Ok.ensures.lexes in
    let numbers = rw same at c.in_ok-finish-in-Ok.ensures.numbers in
    items_found c.args.limits c.args.source.now c.new-parser.result c.new-parser.ensures.all c.in-Ok.items (rw c.bytes.ensures at c.if-source-bytes.false) lexes numbers c.in-Ok.ensures.whole

pub returns-in-Ok-clause-only : goal.returns-in-Ok-clause-only
returns-in-Ok-clause-only c = items_only c.args.limits c.args.source.now c.new-parser.result c.new-parser.ensures.all (Ok c.in-Ok.items) c.in-Ok.ensures.whole

pub returns-in-Ok-clause-same : goal.returns-in-Ok-clause-same
returns-in-Ok-clause-same c = λ any others are. same_items any c.args.limits others (bare_items c.in-Ok.items.items) are (returns-in-Ok-clause-found c).of_grammar

pub returns-in-Ok-clause-in_place : goal.returns-in-Ok-clause-in_place
returns-in-Ok-clause-in_place c =
    let same = c.in-Ok.ensures.walked.on.same_source ∙ c.new-parser.ensures.source in
    let lexes = rw same at c.in_ok-finish-in-Ok.ensures.lexes in
    placed_in c.args.source.now c.new-parser.result c.read_all_items.new.parser (placed_items c.in-Ok.items.items) c.new-parser.ensures.all c.in-Ok.ensures.walked c.in-Ok.ensures.ended lexes

pub returns-in-Ok-clause-stands : goal.returns-in-Ok-clause-stands
returns-in-Ok-clause-stands c = stands_of c.args.source.now (placed_items c.in-Ok.items.items) (returns-in-Ok-clause-in_place c)

pub returns-clause-only : goal.returns-clause-only
returns-clause-only c = items_only c.args.limits c.args.source.now c.new-parser.result c.new-parser.ensures.all (Err c.in-Err.error) c.in-Err.ensures.whole

pub returns-in-Ok-clause-empty : goal.returns-in-Ok-clause-empty
returns-in-Ok-clause-empty c = empty_of_only (λ (v : Vec Printed Global). v.items) (Ok c.in-Ok.items) c.args.limits c.args.source.now (returns-in-Ok-clause-only c)

pub returns-clause-empty : goal.returns-clause-empty
returns-clause-empty c = empty_of_only (λ (v : Vec Printed Global). v.items) (Err c.in-Err.error) c.args.limits c.args.source.now (returns-clause-only c)

pub returns-clause-order : goal.returns-clause-order
returns-clause-order c =
    let same = c.new.ensures.source in
    let told = c.in_ok-finish-in-Err.ensures in
    let lexed : LexesWithin c.args.limits c.args.source.now (tokens_ahead c.args.source.now 0) = record { short = rw c.bytes.ensures at c.if-source-bytes.false; lexes = rw same at told.lexes; numbers = rw same at told.numbers } in
    grammar_refuses (λ (v : Vec Printed Global). bare_items v.items) c.args.limits c.args.source.now c.in-Err.error _ _ lexed c.in-Err.ensures.whole

pub returns-in_err-finish-in-Ok-clause-only : goal.returns-in_err-finish-in-Ok-clause-only
returns-in_err-finish-in-Ok-clause-only c = λ items text.
    let same = c.in-Ok.ensures.walked.on.same_source ∙ c.new-parser.ensures.source in
    let ok = c.in_err-finish-in-Ok.ensures.only c.args.limits _ (subst (λ source. LexesWithin c.args.limits source text.lexes.0) (sym same) text.lexes.1) in
    absurd cc

pub returns-in_err-finish-in-Ok-clause-order : goal.returns-in_err-finish-in-Ok-clause-order
returns-in_err-finish-in-Ok-clause-order c =
    let p = err_from_is_err_and c.from_residual.result c.from_residual.ensures.1 in
    let same = c.in-Ok.ensures.walked.on.same_source ∙ c.new-parser.ensures.source in
    rw (p.1, p.2) (lexer_refuses c.args.limits c.args.source.now _ (rw same at (c.in_err-finish-in-Ok.ensures.refused c.args.limits)))

pub returns-in_err-finish-in-Ok-clause-empty : goal.returns-in_err-finish-in-Ok-clause-empty
returns-in_err-finish-in-Ok-clause-empty c = empty_of_only (λ (v : Vec Printed Global). v.items) c.from_residual.result c.args.limits c.args.source.now (returns-in_err-finish-in-Ok-clause-only c)

pub returns-in_err-finish-in-Err-clause-only : goal.returns-in_err-finish-in-Err-clause-only
returns-in_err-finish-in-Err-clause-only c = λ items text.
    let same = c.new.ensures.source in
    let ok = c.in_err-finish-in-Err.ensures.only c.args.limits _ (subst (λ source. LexesWithin c.args.limits source text.lexes.0) (sym same) text.lexes.1) in
    absurd cc

pub returns-in_err-finish-in-Err-clause-order : goal.returns-in_err-finish-in-Err-clause-order
returns-in_err-finish-in-Err-clause-order c =
    let p = err_from_is_err_and c.from_residual-in_err-finish-in-Err.result c.from_residual-in_err-finish-in-Err.ensures.1 in
    let same = c.new.ensures.source in
    rw (p.1, p.2) (lexer_refuses c.args.limits c.args.source.now _ (rw same at (c.in_err-finish-in-Err.ensures.refused c.args.limits)))

pub returns-in_err-finish-in-Err-clause-empty : goal.returns-in_err-finish-in-Err-clause-empty
returns-in_err-finish-in-Err-clause-empty c = empty_of_only (λ (v : Vec Printed Global). v.items) c.from_residual-in_err-finish-in-Err.result c.args.limits c.args.source.now (returns-in_err-finish-in-Err-clause-only c)
