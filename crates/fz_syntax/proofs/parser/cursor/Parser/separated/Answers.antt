use Rattle.std.proofs.Common.{◌∙◌, ap, map, refl, arith}
use Rattle.std.proofs.lemmas.Result.{err_from_is_err_and}
use Rattle.fz_tree.specs.declared.token.Mark.TheVariants.{Comma}
use Rattle.fz_tree.specs.Left.{left}
use Rattle.fz_syntax.specs.Reading.{separated_at}
use Rattle.fz_syntax.proofs.Walks.{walk_zero, walk_more, walk_then, walk_as, walk_kept, walk_end, separated_end, with_comma, ate}
use Rattle.fz_syntax.proofs.Running.{wants_first, wants_next, wants_part, wants_fails, wants_more, awaits_first, is_whole_list, grown, length_seen}
use Rattle.fz_syntax.proofs.parser.cursor.Parser.separated.Goals as goal

pub elements-init : goal.elements-init
elements-init g c = record {
  wants = wants_first (ap (map g.E.Element.bare) c.none-list.ensures.empty) (ap (λ ts. separated_at (g.E.Element.reading c.args.limits.now) (map (λ t. t.token) (left ts))) c.none-list.ensures.tokens);
  walked = walk_as c.none-list.ensures.tokens c.none-list.ensures.reached c.none-list.ensures.end (walk_zero (with_comma g.E.Element.placed) _ c.none-list.ensures.empty);
}

pub quick-preserved : goal.quick-preserved
quick-preserved g c =
    let less = c.requires.shrinks _ _ _ _ c.in-Some.ensures.read in
    record {
      wants = wants_more (g.E.Element.reading c.args.limits.now) c.requires.shrinks _ _ _ _ _ _ _ (c.len.ensures ∙ c.quick.list.ok.0 ∙ length_seen g.E.Element.bare c.quick.list.items) (grown g.E.Element.bare c.push.new.self.items _ _ c.in_ok-push.ensures.items) refl c.in-Some.ensures.read c.quick.invariant.wants;
      shorter = omega arith;
      walked = walk_more (with_comma g.E.Element.placed) _ _ _ c.in_ok-push.ensures.items c.quick.invariant.walked c.in-Some.ensures.walked;
    }

pub quick-smaller : goal.quick-smaller
quick-smaller g c = let less = c.requires.shrinks _ _ _ _ c.in-Some.ensures.read in omega arith

pub returns-in_err-element-clause-read : goal.returns-in_err-element-clause-read
returns-in_err-element-clause-read g c =
    let wants = rw (← c.in_default.ensures.kept) at c.quick.invariant.wants in
    let p = err_from_is_err_and c.from_residual-in_err-element.result c.from_residual-in_err-element.ensures.1 in
    rw (p.1, p.2) (wants_fails c.in_err-element.field-0.0 (g.E.Element.reading c.args.limits.now) _ _ _ _ (c.len-in-elements.ensures ∙ c.quick.list.ok.0 ∙ length_seen g.E.Element.bare c.quick.list.items) wants c.in_err-element.ensures.read)

pub returns-then-not-eat-clause-read : goal.returns-then-not-eat-clause-read
returns-then-not-eat-clause-read g c =
    let wants = rw (← c.in_default.ensures.kept) at c.quick.invariant.wants in
    let part = wants_part (g.E.Element.reading c.args.limits.now) c.requires.shrinks _ _ _ _ _ _ _ (c.len-in-elements.ensures ∙ c.quick.list.ok.0 ∙ length_seen g.E.Element.bare c.quick.list.items) (grown g.E.Element.bare c.push-in-elements.new.self.items _ _ c.in_ok-push-2.ensures.items) c.in_ok-element.ensures.read wants in
    rw c.filled.ensures (is_whole_list Comma (g.E.Element.reading c.args.limits.now) _ _ _ _ _ c.if-not-eat.true c.eat.ensures.found c.eat.ensures.left part)

pub returns-then-not-eat-clause-walked : goal.returns-then-not-eat-clause-walked
returns-then-not-eat-clause-walked g c = rw c.filled.ensures (walk_kept _ c.if-not-eat.true c.eat.ensures.kept (separated_end g.E.Element.placed _ _ _ c.in_ok-push-2.ensures.items (walk_end c.quick.invariant.walked c.in_default.ensures.stays) c.in_ok-element.ensures.walked))

pub elements-preserved : goal.elements-preserved
elements-preserved g c =
    let wants = rw (← c.in_default.ensures.kept) at c.quick.invariant.wants in
    let part = wants_part (g.E.Element.reading c.args.limits.now) c.requires.shrinks _ _ _ _ _ _ _ (c.len-in-elements.ensures ∙ c.quick.list.ok.0 ∙ length_seen g.E.Element.bare c.quick.list.items) (grown g.E.Element.bare c.push-in-elements.new.self.items _ _ c.in_ok-push-2.ensures.items) c.in_ok-element.ensures.read wants in
    record {
      wants = wants_next (awaits_first Comma (g.E.Element.reading c.args.limits.now) _ _ _ _ _ c.if-not-eat.false c.eat.ensures.found c.eat.ensures.left part);
      walked = walk_more (with_comma g.E.Element.placed) _ _ _ c.in_ok-push-2.ensures.items (walk_end c.quick.invariant.walked c.in_default.ensures.stays) (walk_then c.in_ok-element.ensures.walked (ate Comma _ c.if-not-eat.false c.eat.ensures.found c.eat.ensures.left c.eat.ensures.walked));
    }
