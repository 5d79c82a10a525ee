use Rattle.std.proofs.Common.{sym, ap, ◌∙◌, arith}
use Rattle.fz_meaning.specs.Builtins.{row_at}
use Rattle.fz_meaning.specs.Known.{form_at}
use Rattle.fz_meaning.proofs.WithTruth.{one_more, front_of}
use Rattle.fz_meaning.proofs.known.Known.shapes.Goals as goal

pub slice_bounds-result-count : goal.slice_bounds-result-count
slice_bounds-result-count c = omega (arith, one_more c.base_row.result.0.now (row_at c.args.self.builtin).shapes c.base_row.ensures.shapes)

pub returns-in-Base : goal.returns-in-Base
returns-in-Base c = front_of c.base_row.result.0.now (row_at c.args.self.builtin).shapes c.base_row.ensures.shapes ∙ sym (ap (λ f. (form_at f (row_at c.args.self.builtin)).shapes) c.in-Base.is)
