use Rattle.fz_syntax.proofs.More.{one_list_of_items}
use Rattle.fz_syntax.proofs.text_has_one_list_of_items.Goals as goal

pub returns : goal.returns
returns c = one_list_of_items
