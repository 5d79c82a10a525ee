use Rattle.std.proofs.Common.{◌∙◌, is_some, sym}
use Rattle.std.proofs.lemmas.List.Folds.{list_all-map}
use Rattle.fz_syntax.specs.View.{bare_printed}
use Rattle.fz_store.specs.of_meaning.Meaning.{find_name}
use Rattle.fz_cutting.proofs.are_declared.Goals as goal

pub returns : goal.returns
returns c =
    c.have_declared.ensures
    ∙ sym (list_all-map (λ i. is_some (find_name c.args.model.now i.name)) bare_printed c.args.items.now)
