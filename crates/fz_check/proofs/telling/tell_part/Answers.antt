use Rattle.std.proofs.Common.{◌∷◌, sym, subst, subst₂, arith}
use Rattle.std.proofs.lemmas.Result.{on_ok_weaker}
use Rattle.fz_filling.specs.of_stream.Found.{EndsWithin, block_of}
use Rattle.fz_filling.specs.of_stream.Lending.{part_of, HasPlacesOfItems, PartEndsWithin}
use Rattle.fz_filling.specs.of_stream.Splitting.{most_taken}
use Rattle.fz_filling.specs.View.{verdict_view}
use Rattle.fz_check.specs.Claims.{late_events}
use Rattle.fz_check.specs.Report.{AreOf}
use Rattle.fz_check.specs.Report.Event.{Judged}
use Rattle.fz_check.specs.Telling.{IsUntold, TellsOneMore}
use Rattle.fz_check.specs.View.{event_view}
use Rattle.fz_check.proofs.JuryLemmas.{leaves_block, tells_block, tells_claim}
use Rattle.fz_check.proofs.telling.tell_part.Goals as goal

pub returns-in-Err-clause-refused : goal.returns-in-Err-clause-refused
returns-in-Err-clause-refused g c = λ o m parts outcomes h places within.
    (let short : EndsWithin most_taken c.in-Block.block = subst (PartEndsWithin most_taken) c.in-Block.is within in
    subst (λ p. IsUntold m parts (part_of p) c.in-Err.error) (sym c.in-Block.is)
    (leaves_block o m c.args.jury.now parts outcomes h _ c.in-Block.block c.in-Err.error c.in-Err.ensures.refused (subst HasPlacesOfItems c.in-Block.is places) (omega (arith, short))))

pub returns-in-Ok-clause-told : goal.returns-in-Ok-clause-told
returns-in-Ok-clause-told g c =
    let v = verdict_view c.in-Ok.judged.0 in
    on_ok_weaker c.make_block_line.result (λ made o m parts outcomes h.
    subst (λ p. TellsOneMore o g.T.Taker.text m c.judge.new.self parts outcomes (part_of p) c.make_block_line.new.line.items) (sym c.in-Block.is)
    (tells_block o m c.args.jury.now parts outcomes h g.T.Taker.text c.judge.new.self (block_of c.in-Block.block) v c.make_block_line.new.line.items c.in-Ok.ensures.judged
    (subst₂ (λ n l. AreOf g.T.Taker.text (Judged n v ∷ late_events l n) c.make_block_line.new.line.items) c.in-Ok.ensures.counted c.in-Ok.ensures.late made)))
    c.make_block_line.ensures.made

pub returns-in-Ok-hear_claim-clause-told : goal.returns-in-Ok-hear_claim-clause-told
returns-in-Ok-hear_claim-clause-told g c =
    on_ok_weaker c.make_line.result (λ made o m parts outcomes h.
    subst (λ p. TellsOneMore o g.T.Taker.text m c.hear_claim.new.self parts outcomes (part_of p) c.make_line.new.line.items) (sym c.in-Claim.is)
    (tells_claim o m c.args.jury.now parts outcomes h g.T.Taker.text c.hear_claim.new.self c.in-Claim.kind (event_view c.in-Ok-hear_claim.event) c.make_line.new.line.items c.in-Ok-hear_claim.ensures.heard made))
    c.make_line.ensures.made
