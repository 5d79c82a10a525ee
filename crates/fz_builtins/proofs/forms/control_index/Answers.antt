use Rattle.std.proofs.Common.{◌∙◌, arith}
use Rattle.fz_globals.specs.of_meaning.Builtins.{row_at}
use Rattle.fz_globals.proofs.of_meaning.WithTruth.{last_place, one_more}
use Rattle.fz_builtins.proofs.FormOutcomes.{form_shapes}
use Rattle.fz_builtins.proofs.forms.control_index.Goals as goal

pub overflow_sub-result : goal.overflow_sub-result
overflow_sub-result c =
    let r = row_at c.args.known.builtin in
    omega (arith, one_more c.shapes.result.now r.shapes (c.shapes.ensures ∙ form_shapes c.args.known.form c.requires.form r))

pub returns : goal.returns
returns c =
    let r = row_at c.args.known.builtin in
    record { exact = last_place c.shapes.result.now r.shapes (c.shapes.ensures ∙ form_shapes c.args.known.form c.requires.form r) }
