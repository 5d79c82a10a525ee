use Rattle.std.proofs.Common.{refl}
use Rattle.fz_tree.specs.View.{bare}
use Rattle.fz_tree.proofs.PrintLaws.{all_printed}
use Rattle.fz_tree.proofs.PrintBack.{printed_lexes, printed_again}
use Rattle.fz_tree.proofs.printer.to_text.Goals as goal

pub returns-clause-layout : goal.returns-clause-layout
returns-clause-layout c = all_printed _ c.tree.new.self _ c.new.ensures.items refl c.in_ok-tree.ensures

pub returns-clause-reads_back : goal.returns-clause-reads_back
returns-clause-reads_back c = printed_lexes (bare c.args.ast.now) _ (returns-clause-layout c)

pub returns-clause-again : goal.returns-clause-again
returns-clause-again c = printed_again (bare c.args.ast.now) _ (returns-clause-layout c)
