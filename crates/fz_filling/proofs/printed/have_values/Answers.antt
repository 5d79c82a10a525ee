use Rattle.std.proofs.Common.{map, ◌∙◌}
use Rattle.std.proofs.lemmas.List.{length-map}
use Rattle.fz_index.specs.of_model.Shown.{scalar_terms}
use Rattle.fz_index.specs.of_model.Names.{literal_value}
use Rattle.fz_stream.specs.of_syntax.View.{bare_literal}
use Rattle.fz_filling.proofs.Printing.{not_as_many}
use Rattle.fz_filling.proofs.printed.have_values.Goals as goal

pub returns-then-len-literals : goal.returns-then-len-literals
returns-then-len-literals c =
    not_as_many c.args.partial.now (scalar_terms c.args.list) (map literal_value (map bare_literal c.args.literals.now)) (λ e. c.if-len-literals.true (c.len.ensures.counted ∙ e ∙ (length-map (map bare_literal c.args.literals.now) literal_value ∙ length-map c.args.literals.now bare_literal)))
