use Rattle.fz_filling.proofs.Starting.{items_clean, items_fit}
use Rattle.fz_filling.proofs.laws.fit_without_fault.Goals as goal

pub returns : goal.returns
returns c = λ m items. (items_fit m items, items_clean m items)
