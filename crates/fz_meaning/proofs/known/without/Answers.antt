use Rattle.std.proofs.Common.{sym, ◌∙◌}
use Rattle.fz_meaning.proofs.Named.{no_front}
use Rattle.fz_meaning.proofs.known.without.Goals as goal

pub returns-else-same_text : goal.returns-else-same_text
returns-else-same_text c = no_front c.args.suffix.now c.args.name.now c.split_at.result.1.now c.split_at.ensures.back (sym c.same_text.ensures ∙ c.if-same_text.false)
