use Rattle.std.proofs.Common.{◌≡◌, Err, ap, sym, subst}
use Rattle.fz_filling.specs.of_stream.declared.error.StreamError.TheVariants as stream
use Rattle.fz_check.specs.Telling.{IsStreamRefusal}
use Rattle.fz_check.proofs.Refusals.{stream_fault_on}
use Rattle.fz_check.proofs.checking.read_stream.Goals as goal

pub returns-in-Err-clause-refused : goal.returns-in-Err-clause-refused
returns-in-Err-clause-refused c =
    subst (IsStreamRefusal c.args.stream.now) (sym c.stream_refusal.ensures)
    (stream_fault_on c.args.stream.now c.in-Err.error (λ long. c.in-Err.ensures.too_long.0 (ap Err long)) (λ long. (let gave : Err c.in-Err.error ≡ Err stream.TooLong = c.in-Err.ensures.too_long.1 long in cc)) c.in-Err.ensures.refused c.in-Err.ensures.stops c.in-Err.ensures.fault)
