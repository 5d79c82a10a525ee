use Rattle.std.proofs.Common.{map, sym, ap, ◌∙◌}
use Rattle.fz_index.specs.of_model.Meaning.Place.{Array}
use Rattle.fz_index.specs.of_model.Shown.{scalar_terms}
use Rattle.fz_index.specs.of_model.Names.{literal_value}
use Rattle.fz_stream.specs.of_syntax.View.{bare_literal, bare_printed_value}
use Rattle.fz_filling.specs.Verdict.{has_printed}
use Rattle.fz_filling.specs.Working.{have_values}
use Rattle.fz_filling.proofs.Lists.{ok_then}
use Rattle.fz_filling.proofs.Printing.{are_same}
use Rattle.fz_filling.proofs.printed.array_has.Goals as goal

pub returns-in-Array : goal.returns-in-Array
returns-in-Array c =
    ok_then c.have_values.result c.have_values.ensures (λ b h x k.
    h ∙ ap (λ ls. have_values c.args.partial.now (scalar_terms c.args.list) (map literal_value (map bare_literal ls))) c.deref.ensures.value ∙ are_same c.args.partial.now (scalar_terms c.args.list) (map literal_value (map bare_literal c.in-Array.elements.items))
    ∙ ap (λ v. has_printed c.args.partial.now (Array x k (scalar_terms c.args.list)) (bare_printed_value v)) (sym c.in-Array.is))
