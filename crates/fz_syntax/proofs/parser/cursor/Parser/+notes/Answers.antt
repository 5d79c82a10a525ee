use Rattle.std.proofs.Common.{sym, subst, ◌∙◌, ap, map, refl, arith}
use Rattle.std.proofs.lemmas.Result.{err_from_is_err_and}
use Rattle.fz_tree.specs.declared.token.Mark.TheVariants.{OpenParen, CloseParen, OpenBracket, CloseBracket, Comma}
use Rattle.fz_syntax.specs.Placed.{placed_arg, placed_note_basic}
use Rattle.fz_syntax.proofs.Walks.{separated_first, separated_more, some_pushed, walk_then, walk_from, walk_as, walk_end, walk_kept, walk_still, walk_empty, no_args_walk, ate, mark_walk, args_walk, note_list_walk}
use Rattle.fz_syntax.proofs.Folds.{note_unfolds, list_unfolds}
use Rattle.fz_syntax.specs.Walk.{Walk}
use Rattle.fz_tree.specs.View.{bare_arg, bare_basic}
use Rattle.fz_syntax.specs.Reading.{any_number, at_most, note_at, note_arg_at, note_basic_at}
use Rattle.fz_syntax.proofs.Separated.{separated_fails}
use Rattle.fz_syntax.proofs.Running.{separated_init, keeps_on, stops, is_whole_list, grown, length_seen}
use Rattle.fz_syntax.proofs.ListLaws.{bounded, unbounded}
use Rattle.fz_syntax.proofs.ExprLaws.{same}
use Rattle.fz_syntax.proofs.NoteLaws.{note_law, note_basic_law, note_arg_law}
use Rattle.fz_syntax.proofs.parser.cursor.Parser.+notes.Goals as goal

pub separated_note_args-returns-in_err-note_arg-clause-read : goal.separated_note_args-returns-in_err-note_arg-clause-read
separated_note_args-returns-in_err-note_arg-clause-read t c =
    let p = err_from_is_err_and c.from_residual.result c.from_residual.ensures.1 in
    rw (p.1, p.2) (separated_fails c.in_err-note_arg.field-0.0 (any_number (note_arg_at c.args.limits.now c.args.depth (note_at c.args.limits.now c.args.depth))) _ c.in_err-note_arg.ensures.read)

pub separated_note_args-more_args-init : goal.separated_note_args-more_args-init
separated_note_args-more_args-init t c = record {
  continues = separated_init (any_number (note_arg_at c.args.limits.now c.args.depth (note_at c.args.limits.now c.args.depth))) _ _ _ _ _ (ap (map bare_arg) c.list-arguments.ensures) (grown bare_arg _ _ _ c.in_ok-push.ensures.items) c.in_ok-note_arg.ensures.read;
  walked = separated_first placed_arg _ _ _ c.list-arguments.ensures c.in_ok-push.ensures.items (walk_as refl refl refl c.in_ok-note_arg.ensures.walked);
  some = some_pushed _ _ _ c.in_ok-push.ensures.items;
}

pub separated_note_args-returns-in_err-arg-clause-read : goal.separated_note_args-returns-in_err-arg-clause-read
separated_note_args-returns-in_err-arg-clause-read t c =
    let p = err_from_is_err_and c.from_residual-in_err-arg.result c.from_residual-in_err-arg.ensures.1 in
    rw (p.1, p.2) (stops c.in_err-arg.field-0.0 Comma (any_number (note_arg_at c.args.limits.now c.args.depth (note_at c.args.limits.now c.args.depth))) _ _ _ _ _ refl _ c.more_args-test.true c.eat.ensures.found c.eat.ensures.left c.more_args.invariant.continues c.in_err-arg.ensures.read)

pub separated_note_args-more_args-preserved : goal.separated_note_args-more_args-preserved
separated_note_args-more_args-preserved t c = record {
  continues = keeps_on Comma (any_number (note_arg_at c.args.limits.now c.args.depth (note_at c.args.limits.now c.args.depth))) (unbounded (note_arg_law _ _ (same c.args.limits.now) _ _ _ (note_law _ _ (same c.args.limits.now) c.args.depth c.args.depth (omega arith))) 0).shrinks _ _ _ _ _ _ _ _ refl (grown bare_arg _ _ _ c.in_ok-push-2.ensures.items) _ c.more_args-test.true c.eat.ensures.found c.eat.ensures.left c.in_ok-arg.ensures.read c.more_args.invariant.continues;
  walked = separated_more placed_arg _ _ _ c.more_args.invariant.some c.in_ok-push-2.ensures.items c.more_args.invariant.walked (ate Comma _ c.more_args-test.true c.eat.ensures.found c.eat.ensures.left c.eat.ensures.walked) c.in_ok-arg.ensures.walked;
  some = some_pushed _ _ _ c.in_ok-push-2.ensures.items;
}

pub separated_note_args-returns-clause-read : goal.separated_note_args-returns-clause-read
separated_note_args-returns-clause-read t c = rw c.filled.ensures (is_whole_list Comma (any_number (note_arg_at c.args.limits.now c.args.depth (note_at c.args.limits.now c.args.depth))) _ _ _ _ _ c.more_args-test.false c.eat.ensures.found c.eat.ensures.left c.more_args.invariant.continues)

pub separated_note_basics-returns-in_err-listed_note_basic-clause-read : goal.separated_note_basics-returns-in_err-listed_note_basic-clause-read
separated_note_basics-returns-in_err-listed_note_basic-clause-read t c =
    let p = err_from_is_err_and c.from_residual.result c.from_residual.ensures.1 in
    rw (p.1, p.2) (separated_fails c.in_err-listed_note_basic.field-0.0 (at_most c.args.limits.now.elements (note_basic_at c.args.limits.now (note_at c.args.limits.now c.args.depth))) _ c.in_err-listed_note_basic.ensures.read)

pub separated_note_basics-more_basics-init : goal.separated_note_basics-more_basics-init
separated_note_basics-more_basics-init t c = record {
  continues = separated_init (at_most c.args.limits.now.elements (note_basic_at c.args.limits.now (note_at c.args.limits.now c.args.depth))) _ _ _ _ _ (ap (map bare_basic) c.new-basics.ensures.items) (grown bare_basic _ _ _ c.in_ok-push.ensures.items) c.in_ok-listed_note_basic.ensures.read;
  walked = separated_first placed_note_basic _ _ _ c.new-basics.ensures.items c.in_ok-push.ensures.items c.in_ok-listed_note_basic.ensures.walked;
  some = some_pushed _ _ _ c.in_ok-push.ensures.items;
}

pub separated_note_basics-returns-in_err-basic-clause-read : goal.separated_note_basics-returns-in_err-basic-clause-read
separated_note_basics-returns-in_err-basic-clause-read t c =
    let p = err_from_is_err_and c.from_residual-in_err-basic.result c.from_residual-in_err-basic.ensures.1 in
    rw (p.1, p.2) (stops c.in_err-basic.field-0.0 Comma (at_most c.args.limits.now.elements (note_basic_at c.args.limits.now (note_at c.args.limits.now c.args.depth))) _ _ _ _ _ (c.len.ensures ∙ c.more_basics.basics.ok.0 ∙ length_seen bare_basic c.more_basics.basics.items) _ c.more_basics-test.true c.eat.ensures.found c.eat.ensures.left c.more_basics.invariant.continues c.in_err-basic.ensures.read)

pub separated_note_basics-more_basics-preserved : goal.separated_note_basics-more_basics-preserved
separated_note_basics-more_basics-preserved t c = record {
  continues = keeps_on Comma (at_most c.args.limits.now.elements (note_basic_at c.args.limits.now (note_at c.args.limits.now c.args.depth))) (bounded (note_basic_law _ _ (same c.args.limits.now) _ _ _ (note_law _ _ (same c.args.limits.now) c.args.depth c.args.depth (omega arith))) _).shrinks _ _ _ _ _ _ _ _ (c.len.ensures ∙ c.more_basics.basics.ok.0 ∙ length_seen bare_basic c.more_basics.basics.items) (grown bare_basic _ _ _ c.in_ok-push-2.ensures.items) _ c.more_basics-test.true c.eat.ensures.found c.eat.ensures.left c.in_ok-basic.ensures.read c.more_basics.invariant.continues;
  walked = separated_more placed_note_basic _ _ _ c.more_basics.invariant.some c.in_ok-push-2.ensures.items c.more_basics.invariant.walked (ate Comma _ c.more_basics-test.true c.eat.ensures.found c.eat.ensures.left c.eat.ensures.walked) c.in_ok-basic.ensures.walked;
  some = some_pushed _ _ _ c.in_ok-push-2.ensures.items;
}

pub separated_note_basics-returns-clause-read : goal.separated_note_basics-returns-clause-read
separated_note_basics-returns-clause-read t c = rw c.trimmed.ensures (is_whole_list Comma (at_most c.args.limits.now.elements (note_basic_at c.args.limits.now (note_at c.args.limits.now c.args.depth))) _ _ _ _ _ c.more_basics-test.false c.eat.ensures.found c.eat.ensures.left c.more_basics.invariant.continues)

pub separated_note_args-returns-clause-walked : goal.separated_note_args-returns-clause-walked
separated_note_args-returns-clause-walked t c = rw c.filled.ensures (walk_end (walk_kept _ c.more_args-test.false c.eat.ensures.kept c.more_args.invariant.walked) (walk_still _ _ refl refl refl refl))

pub separated_note_basics-returns-clause-walked : goal.separated_note_basics-returns-clause-walked
separated_note_basics-returns-clause-walked t c = rw c.trimmed.ensures (walk_kept _ c.more_basics-test.false c.eat.ensures.kept c.more_basics.invariant.walked)

pub separated_note_args-returns-clause-some : goal.separated_note_args-returns-clause-some
separated_note_args-returns-clause-some t c = rw c.filled.ensures c.more_args.invariant.some

pub note-returns-clause-walked : goal.note-returns-clause-walked
note-returns-clause-walked t c =
    subst (λ s. Walk c.args.self.now c.note_args.new.self s) (sym (note_unfolds c.in_ok-name.name c.in_ok-args.args)) (walk_then c.in_ok-name.ensures.walked c.in_ok-args.ensures.walked)

pub note_arg-returns-in_ok-note_list-clause-walked : goal.note_arg-returns-in_ok-note_list-clause-walked
note_arg-returns-in_ok-note_list-clause-walked t c =
    subst (λ s. Walk c.args.self.now c.note_list.new.self s) (sym (list_unfolds c.in_ok-note_list.field-0))
    (note_list_walk c.in_ok-note_list.field-0.items (ate OpenBracket _ c.if-eat.true c.eat.ensures.found c.eat.ensures.left c.eat.ensures.walked) c.in_ok-note_list.ensures.walked)

pub note_args-returns-clause-walked : goal.note_args-returns-clause-walked
note_args-returns-clause-walked t c =
    args_walk c.in_ok-args.args.items c.in_ok-args.ensures.some (ate OpenParen _ c.if-not-eat.false c.eat.ensures.found c.eat.ensures.left c.eat.ensures.walked) c.in_ok-args.ensures.walked
    (mark_walk CloseParen c.in_ok-expect.ensures.walked c.in_ok-expect.ensures.read)

pub note_args-returns-then-not-eat-clause-walked : goal.note_args-returns-then-not-eat-clause-walked
note_args-returns-then-not-eat-clause-walked t c = no_args_walk c.new.result.items c.new.ensures.items c.if-not-eat.ensures.kept

pub note_list-returns-then-eat-clause-walked : goal.note_list-returns-then-eat-clause-walked
note_list-returns-then-eat-clause-walked t c = walk_empty placed_note_basic CloseBracket _ c.new.ensures.items (ate CloseBracket _ c.if-eat.true c.eat.ensures.found c.eat.ensures.left c.eat.ensures.walked)

pub note_list-returns-clause-walked : goal.note_list-returns-clause-walked
note_list-returns-clause-walked t c = walk_from c.if-eat.ensures.kept (walk_then c.in_ok-basics.ensures.walked (mark_walk CloseBracket c.in_ok-expect.ensures.walked c.in_ok-expect.ensures.read))
