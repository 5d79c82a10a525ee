use Rattle.std.proofs.Common.{ℕ, ◌+◌, ◌^◌, ◌-◌, inl, inr, List, length, refl, arith}
use Rattle.std.proofs.lemmas.List.{take_rest}
use Rattle.fz_stream.proofs.TakeLemmas.{taking_begun, taking_line, takes_frame, takes_broken, passes_limit, room_next}
use Rattle.fz_stream.proofs.held.take_bytes.Goals as goal
use Rattle.fz_stream.proofs.held.take_bytes.Goals.{then-part-room-via-then-part-room, then-part-room-via-else-part-room+then-part-left}

pub loop-at-preserved : goal.loop-at-preserved
loop-at-preserved c =
    let p = c.first_line-part.ensures in
    taking_begun _ _ _ _ _ c.loop-at.invariant _ _ (take_rest c.args.piece.now c.loop-at.at) p.front p.within p.some p.whole _ c.in_ok-extend_from_slice.ensures.items refl refl (omega arith) (omega arith) c.if-is_whole.false

pub loop-at-preserved-in-Ok-None : goal.loop-at-preserved-in-Ok-None
loop-at-preserved-in-Ok-None c =
    let p = c.first_line-part.ensures in
    let e = c.in-Ok-None.ensures in
    taking_line _ _ _ _ _ c.loop-at.invariant _ _ (take_rest c.args.piece.now c.loop-at.at) p.front p.within p.some p.whole _ c.in_ok-extend_from_slice.ensures.items refl refl (omega arith) (omega arith) c.if-is_whole.true _
    e.line_after e.taken e.shorter (rw c.in-Ok-None.field-0-is at e.ends)

pub returns-in-Ok-Some-clause-ends : goal.returns-in-Ok-Some-clause-ends
returns-in-Ok-Some-clause-ends c =
    let p = c.first_line-part.ensures in
    takes_frame _ _ _ _ _ c.loop-at.invariant _ _ (take_rest c.args.piece.now c.loop-at.at) p.front p.within p.some p.whole _ c.in_ok-extend_from_slice.ensures.items refl refl (omega arith) (omega arith) c.if-is_whole.true c.end_line.new.held c.in-Ok-Some.ended
    (rw c.in-Ok-Some.field-0-is at c.in-Ok-Some.ensures.ends)

pub returns-clause-ends : goal.returns-clause-ends
returns-clause-ends c = c.loop-at.invariant.stands

pub returns-in-Ok-Some-clause-room : goal.returns-in-Ok-Some-clause-room
returns-in-Ok-Some-clause-room c =
    let p = c.first_line-part.ensures in
    room_next _ _ _ _ _ c.loop-at.invariant _ _ (take_rest c.args.piece.now c.loop-at.at) p.front p.within p.some p.whole (omega arith) (omega arith)

pub returns-in-Err-clause-broken : goal.returns-in-Err-clause-broken
returns-in-Err-clause-broken c _ _ limits =
    let p = c.first_line-part.ensures in
    takes_broken _ _ _ _ _ c.loop-at.invariant _ _ (take_rest c.args.piece.now c.loop-at.at) p.front p.within p.some p.whole _ c.in_ok-extend_from_slice.ensures.items refl refl (omega arith) (omega arith) c.if-is_whole.true _ limits
    (c.in-Err.ensures.breaks limits)

pub returns-then-part-room-clause-too_long : goal.returns-then-part-room-clause-too_long
returns-then-part-room-clause-too_long c _ bytes frames k =
    let p = c.first_line-part.ensures in
    let held : List ℕ = c.loop-at.held.buffer.items in
    elim c.then-part-room.branch [
      | then-part-room-via-then-part-room w ↦
          passes_limit _ _ _ _ _ c.loop-at.invariant _ _ (take_rest c.args.piece.now c.loop-at.at) p.front p.within p.some p.whole
          (c.args.most_held - length held) (omega (arith, w.if-part-room.true, c.loop-at.held.buffer.ok.0)) bytes frames k (inl (omega (arith, c.loop-at.invariant.most)))
      | then-part-room-via-else-part-room+then-part-left w ↦
          passes_limit _ _ _ _ _ c.loop-at.invariant _ _ (take_rest c.args.piece.now c.loop-at.at) p.front p.within p.some p.whole
          (2 ^ 40 - (c.loop-at.held.before + length held)) (omega (arith, w.if-part-left.true, c.loop-at.held.buffer.ok.0)) bytes frames k (inr (omega (arith, c.loop-at.invariant.most_taken)))
    ]
