use Rattle.fz_syntax.proofs.More.{one_tree}
use Rattle.fz_syntax.proofs.text_has_one_tree.Goals as goal

pub returns : goal.returns
returns c = one_tree
