use Rattle.std.proofs.Common.{◌∷◌, [], sym, ap, ◌∙◌, arith}
use Rattle.fz_meaning.specs.Builtins.{row_at}
use Rattle.fz_meaning.specs.Results.{result_of}
use Rattle.fz_meaning.specs.Results.Result.{Places}
use Rattle.fz_meaning.specs.Known.{form_at}
use Rattle.fz_meaning.proofs.WithTruth.{one_more, last_place, reified_result}
use Rattle.fz_meaning.proofs.known.Known.filled.Goals as goal

pub overflow_sub-result : goal.overflow_sub-result
overflow_sub-result c = omega (arith, one_more c.base_row-filled.result.0.now (row_at c.args.self.builtin).shapes c.base_row-filled.ensures.shapes)

pub returns-in-Reified : goal.returns-in-Reified
returns-in-Reified c =
    let row = row_at c.args.self.builtin in
    ap (λ n. Places (n ∷ [])) (last_place c.base_row-filled.result.0.now row.shapes c.base_row-filled.ensures.shapes) ∙ sym (ap (λ f. result_of (form_at f row)) c.in-Reified.is ∙ reified_result row)

pub returns-in-Implied : goal.returns-in-Implied
unfolding result_of
returns-in-Implied c = sym (ap (λ f. result_of (form_at f (row_at c.args.self.builtin))) c.in-Implied.is)
