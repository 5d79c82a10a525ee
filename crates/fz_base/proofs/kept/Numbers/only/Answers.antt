use Rattle.fz_base.proofs.kept.Numbers.only.Goals as goal

pub returns-in-Low-clause-none : goal.returns-in-Low-clause-none
returns-in-Low-clause-none c = rw c.in-Low.is c.only.ensures.none

pub returns-in-Ranges-clause-none : goal.returns-in-Ranges-clause-none
returns-in-Ranges-clause-none c = rw c.in-Ranges.is (rw (c.deref-in-Ranges.ensures.value, c.deref.ensures) at c.only-in-Ranges.ensures.none)
