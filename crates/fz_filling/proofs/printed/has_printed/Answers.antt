use Rattle.std.proofs.Common.{sym, ap, ◌∙◌}
use Rattle.fz_index.specs.of_model.Shown.{kind_among, what_place}
use Rattle.fz_index.specs.of_model.Slots.{scalar_term}
use Rattle.fz_filling.specs.Verdict.{has_printed}
use Rattle.fz_stream.specs.of_syntax.View.{bare_printed_value}
use Rattle.fz_filling.proofs.Lists.{ok_then}
use Rattle.fz_filling.proofs.printed.has_printed.Goals as goal

pub returns-in-Scalar : goal.returns-in-Scalar
returns-in-Scalar c =
    ok_then c.scalar_has.result c.scalar_has.ensures (λ b h vs x. h (kind_among vs (scalar_term c.in-Scalar.scalar)) ∙ ap (λ w. has_printed c.args.partial.now (what_place vs x w) (bare_printed_value c.args.value.now)) (sym c.in-Scalar.is))

pub returns-in-Array : goal.returns-in-Array
returns-in-Array c =
    ok_then c.array_has.result c.array_has.ensures (λ b h vs x. h x c.in-Array.field-0 ∙ ap (λ w. has_printed c.args.partial.now (what_place vs x w) (bare_printed_value c.args.value.now)) (sym c.in-Array.is))
