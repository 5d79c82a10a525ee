use Rattle.std.proofs.Common.{subst}
use Rattle.std.specs.Io.KnownBytes.{Appends}
use Rattle.fz_check.specs.Writing.{WritesFront}
use Rattle.fz_check.proofs.WritingLemmas.{front_and_none, front_longer, wrote_whole}
use Rattle.fz_check.proofs.telling.gather.Goals as goal

pub returns-in-Err-clause-front : goal.returns-in-Err-clause-front
returns-in-Err-clause-front g c = λ next f. front_longer _ _ _ _ (subst (WritesFront (g.W.Write.contents c.args.writer.now) next) c.in-Err.ensures.items f)

pub returns-in-Ok-write_lines-clause-gathered : goal.returns-in-Ok-write_lines-clause-gathered
returns-in-Ok-write_lines-clause-gathered g c = wrote_whole _ _ _ _ (subst (Appends (g.W.Write.contents c.args.writer.now) (g.W.Write.contents c.write_lines.new.writer)) c.in-Ok.ensures.items c.in-Ok-write_lines.ensures.whole) c.write_lines.ensures.none_left

pub returns-in-Err-write_lines-clause-front : goal.returns-in-Err-write_lines-clause-front
returns-in-Err-write_lines-clause-front g c = λ next f.
    front_and_none _ _ _ _ _ (subst (WritesFront (g.W.Write.contents c.args.writer.now) (g.W.Write.contents c.write_lines.new.writer)) c.in-Ok.ensures.items c.in-Err-write_lines.ensures.front) c.write_lines.ensures.none_left f
