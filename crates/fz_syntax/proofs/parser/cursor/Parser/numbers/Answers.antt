use Rattle.std.proofs.Common.{◌≡◌, ◌++◌, ◌∷◌, [], ◌∙◌, refl, arith}
use Rattle.std.proofs.lemmas.Int.{to_z-of_z}
use Rattle.std.proofs.lemmas.Result.{err_from_is_err_and}
use Rattle.fz_tree.specs.declared.token.Mark.TheVariants.{Comma}
use Rattle.fz_syntax.specs.Reading.{at_most, whole_at}
use Rattle.fz_syntax.proofs.Walks.{passed_then}
use Rattle.fz_syntax.proofs.ExprLaws.{whole_law}
use Rattle.fz_syntax.proofs.Running.{wants_next, wants_part, wants_fails, wants_more, awaits_first, is_whole_list}
use Rattle.fz_syntax.proofs.Listed.{listed_whole}
use Rattle.fz_syntax.proofs.ListLaws.{bounded}
use Rattle.fz_syntax.proofs.parser.cursor.Parser.numbers.Goals as goal

pub listed-preserved : goal.listed-preserved
listed-preserved c =
    let items = c.listed.numbers.items in
    let grew : c.push.new.self.items ≡ items ++ c.in-Some.number ∷ [] = grind (arith, to_z-of_z, c.in_ok-push.ensures.items) in
    record {
      wants = wants_more (at_most c.args.limits.now.elements whole_at) (bounded whole_law _).shrinks _ _ _ _ _ _ _ (c.len.ensures ∙ c.listed.numbers.ok.0) grew refl (listed_whole c.args.limits.now _ _ _ _ c.in-Some.ensures.room c.in-Some.ensures.read) c.listed.invariant.wants;
      shorter = omega (arith, c.in-Some.ensures.shorter);
      walked = passed_then c.listed.invariant.walked c.in-Some.ensures.walked;
    }

pub returns-in_err-number-clause-read : goal.returns-in_err-number-clause-read
returns-in_err-number-clause-read c =
    let wants = rw (← c.in_default.ensures.kept) at c.listed.invariant.wants in
    let p = err_from_is_err_and c.from_residual-in_err-number.result c.from_residual-in_err-number.ensures.1 in
    rw (p.1, p.2) (wants_fails c.in_err-number.field-0.0 (at_most c.args.limits.now.elements whole_at) _ _ _ _ (c.len-in-numbers.ensures ∙ c.listed.numbers.ok.0) wants c.in_err-number.ensures.read)

pub returns-then-not-eat-clause-read : goal.returns-then-not-eat-clause-read
returns-then-not-eat-clause-read c =
    let wants = rw (← c.in_default.ensures.kept) at c.listed.invariant.wants in
    let grew : c.push-in-numbers.new.self.items ≡ c.listed.numbers.items ++ c.in_ok-number.number ∷ [] = grind (arith, to_z-of_z, c.in_ok-push-2.ensures.items) in
    let part = wants_part (at_most c.args.limits.now.elements whole_at) (bounded whole_law _).shrinks _ _ _ _ _ _ _ (c.len-in-numbers.ensures ∙ c.listed.numbers.ok.0) grew c.in_ok-number.ensures.read wants in
    rw c.trimmed.ensures (is_whole_list Comma (at_most c.args.limits.now.elements whole_at) _ _ _ _ _ c.if-not-eat.true c.eat.ensures.found c.eat.ensures.left part)

pub numbers-preserved : goal.numbers-preserved
numbers-preserved c =
    let wants = rw (← c.in_default.ensures.kept) at c.listed.invariant.wants in
    let grew : c.push-in-numbers.new.self.items ≡ c.listed.numbers.items ++ c.in_ok-number.number ∷ [] = grind (arith, to_z-of_z, c.in_ok-push-2.ensures.items) in
    let part = wants_part (at_most c.args.limits.now.elements whole_at) (bounded whole_law _).shrinks _ _ _ _ _ _ _ (c.len-in-numbers.ensures ∙ c.listed.numbers.ok.0) grew c.in_ok-number.ensures.read wants in
    record {
      wants = wants_next (awaits_first Comma (at_most c.args.limits.now.elements whole_at) _ _ _ _ _ c.if-not-eat.false c.eat.ensures.found c.eat.ensures.left part);
      walked = passed_then (passed_then (passed_then c.listed.invariant.walked c.eat_listed_whole.ensures.walked) c.in_ok-number.ensures.walked) c.eat.ensures.walked;
    }

pub returns-then-not-eat-clause-walked : goal.returns-then-not-eat-clause-walked
returns-then-not-eat-clause-walked c =
    passed_then (passed_then (passed_then c.listed.invariant.walked c.eat_listed_whole.ensures.walked) c.in_ok-number.ensures.walked) c.eat.ensures.walked
