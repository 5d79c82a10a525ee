use Rattle.fz_base.proofs.kept.Numbers.are_same.Goals as goal

pub returns-in-Low-Low : goal.returns-in-Low-Low
returns-in-Low-Low c = rw (c.in-Low-Low.is-0, c.in-Low-Low.is-1) c.are_same.ensures
