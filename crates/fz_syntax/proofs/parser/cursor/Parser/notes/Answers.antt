use Rattle.fz_tree.specs.Token.{Marked}
use Rattle.std.proofs.Common.{◌∷◌, ap, map, refl, arith}
use Rattle.std.proofs.lemmas.Result.{err_from_is_err_and}
use Rattle.fz_tree.specs.declared.token.Mark.TheVariants.{ColonColon}
use Rattle.fz_syntax.specs.Placed.{unplaced, placed_note}
use Rattle.fz_syntax.proofs.Walks.{walk_zero, walk_more, walk_then, walk_as, walk_end, walk_kept, walk_still, ate}
use Rattle.fz_tree.specs.View.{bare_note}
use Rattle.fz_syntax.specs.Reading.{any_number, note_at}
use Rattle.fz_syntax.proofs.Running.{keeps_on, stops, is_whole_list, grown, notes_begin}
use Rattle.fz_syntax.proofs.NoteLaws.{note_law}
use Rattle.fz_syntax.proofs.ListLaws.{unbounded}
use Rattle.fz_syntax.proofs.ExprLaws.{same}
use Rattle.fz_syntax.proofs.parser.cursor.Parser.notes.Goals as goal

pub loop-self-init : goal.loop-self-init
loop-self-init c = record {
  continues = notes_begin c.args.limits.now _ _ (ap (map bare_note) c.list-notes.ensures);
  walked = walk_as refl refl refl (walk_zero (λ n. unplaced (Marked ColonColon) ∷ placed_note n) _ c.list-notes.ensures);
}

pub returns-in_err-note-clause-read : goal.returns-in_err-note-clause-read
returns-in_err-note-clause-read c =
    let p = err_from_is_err_and c.from_residual.result c.from_residual.ensures.1 in
    rw (p.1, p.2) (stops c.in_err-note.field-0.0 ColonColon (any_number (note_at c.args.limits.now c.args.limits.now.depth)) _ _ _ _ _ refl _ c.loop-self-test.true c.eat.ensures.found c.eat.ensures.left c.loop-self.invariant.continues (rw c.depth.ensures at c.in_err-note.ensures.read))

pub loop-self-preserved : goal.loop-self-preserved
loop-self-preserved c = record {
  continues = keeps_on ColonColon (any_number (note_at c.args.limits.now c.args.limits.now.depth)) (unbounded (note_law _ _ (same c.args.limits.now) c.args.limits.now.depth c.args.limits.now.depth (omega arith)) 0).shrinks _ _ _ _ _ _ _ _ refl (grown bare_note _ _ _ c.in_ok-push.ensures.items) _ c.loop-self-test.true c.eat.ensures.found c.eat.ensures.left (rw c.depth.ensures at c.in_ok-note.ensures.read) c.loop-self.invariant.continues;
  walked = walk_more (λ n. unplaced (Marked ColonColon) ∷ placed_note n) _ _ _ c.in_ok-push.ensures.items c.loop-self.invariant.walked (walk_then (ate ColonColon _ c.loop-self-test.true c.eat.ensures.found c.eat.ensures.left c.eat.ensures.walked) c.in_ok-note.ensures.walked);
}

pub returns-clause-read : goal.returns-clause-read
returns-clause-read c = rw c.filled.ensures (is_whole_list ColonColon (any_number (note_at c.args.limits.now c.args.limits.now.depth)) _ _ _ _ _ c.loop-self-test.false c.eat.ensures.found c.eat.ensures.left c.loop-self.invariant.continues)

pub returns-clause-walked : goal.returns-clause-walked
returns-clause-walked c = rw c.filled.ensures (walk_end (walk_kept _ c.loop-self-test.false c.eat.ensures.kept c.loop-self.invariant.walked) (walk_still _ _ refl refl refl refl))
