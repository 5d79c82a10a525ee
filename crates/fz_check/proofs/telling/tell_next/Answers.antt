use Rattle.std.proofs.Common.{inl, inr}
use Rattle.std.proofs.lemmas.Result.{IfErr-weaker, on_ok_weaker}
use Rattle.fz_filling.specs.of_stream.Lending.{part_of}
use Rattle.fz_check.proofs.telling.tell_next.Goals as goal

pub returns-clause-told : goal.returns-clause-told
returns-clause-told g c =
    on_ok_weaker c.tell_part.result (λ told o m left given parts frame outcomes n h. (part_of c.in-Ok.part, c.in-Ok.ensures.part o.limits left given parts frame n, told o m parts outcomes h)) c.tell_part.ensures.told

pub returns-clause-refused : goal.returns-clause-refused
returns-clause-refused g c =
    IfErr-weaker c.tell_part.result _ _ (λ e refused o m left given parts frame outcomes n h. inr (part_of c.in-Ok.part, c.in-Ok.ensures.part o.limits left given parts frame n, refused o m parts outcomes h c.in-Ok.ensures.places c.in-Ok.ensures.within)) c.tell_part.ensures.refused

pub returns-in-Err-clause-refused : goal.returns-in-Err-clause-refused
returns-in-Err-clause-refused g c = λ o m left given parts frame outcomes n h. inl (c.in-Err.ensures.refused o.limits o.ending m left given parts frame n)
