use Rattle.std.proofs.Common.{◌≡◌, ◌≢◌, ◌∙◌, Err, ap, rules}
use Rattle.fz_search.specs.of_model.declared.LoadError.TheVariants as loads
use Rattle.fz_filling.specs.of_syntax.SyntaxError.TheVariants as syntax
use Rattle.fz_check.proofs.Refusals.{text_fault}
use Rattle.fz_check.proofs.checking.read_model.Goals as goal

pub returns-in-Err-Text : goal.returns-in-Err-Text
returns-in-Err-Text c =
    let is : c.in-Err-Text.field-0 ≡ loads.Text c.in-Err-Text.error = c.in-Err-Text.field-0-is in
    let other : c.in-Err-Text.error ≢ syntax.Memory = search rules in
    record {
      loaded = tt;
      refused = text_fault c.args.limits c.args.source.now c.in-Err-Text.error other (c.in-Err-Text.ensures.text c.in-Err-Text.error (ap Err is)) (λ long. c.in-Err-Text.ensures.too_long.0 (ap Err (is ∙ ap loads.Text long)))
          (λ long. (let gave : Err c.in-Err-Text.field-0 ≡ Err (loads.Text syntax.TooLong) = c.in-Err-Text.ensures.too_long.1 long in cc));
    }
