use Rattle.std.proofs.Common.{◌≡◌, ◌+◌, length, Err, arith, sym, ap, ◌∙◌, subst}
use Rattle.fz_syntax.specs.SyntaxError.TheVariants.{TooLong}
use Rattle.fz_syntax.specs.Places.{IsSpanWithin}
use Rattle.fz_stream.specs.Faults.{IsFaultWithin}
use Rattle.fz_stream.specs.Step.{IsLineFault}
use Rattle.fz_stream.specs.Telling.{TellsOfText}
use Rattle.fz_stream.specs.declared.error.StreamError.TheVariants.{Memory}
use Rattle.fz_stream.proofs.FaultLemmas.{placed_fault, block_fault, no_value, tells_text, again_in, again_within, second_printing}
use Rattle.fz_stream.proofs.block.read_block.Goals as goal

pub returns-in-Err : goal.returns-in-Err
returns-in-Err c =
    let short : c.in-Err.e ≡ TooLong → ⊥ = λ e. absurd (omega (arith, c.requires.short, (c.read_items_within.ensures.too_long).0 (c.in-Err.is ∙ ap Err e))) in
    record {
      offset = tt;
      text = tt;
      items = tt;
      only = tt;
      places = tt;
      refused = λ known items t. no_value c.args.offset c.in-Err.e items (subst (λ f. f ≡ Memory → ⊥) c.item_fault.ensures known) (c.in-Err.ensures.only items t.0);
      fault = subst IsLineFault (sym c.item_fault.ensures) (block_fault c.args.offset c.in-Err.e short);
      place = subst (IsFaultWithin (c.args.offset + length c.args.text.now)) (sym c.item_fault.ensures) (placed_fault c.args.offset (length c.args.text.now) c.in-Err.e c.in-Err.ensures.placed);
      tells = subst (TellsOfText c.args.limits c.args.offset c.args.text.now) (sym c.item_fault.ensures) (tells_text c.args.limits c.args.offset c.args.text.now c.in-Err.e short c.in-Err.ensures.only c.in-Err.ensures.order c.in-Err.ensures.placed);
    }

pub moved_span-requires : goal.moved_span-requires
moved_span-requires c =
    let w = again_within c.args.text.now _ _ (again_in _ _ _ c.in-Some.span c.in-Some.is c.deref.ensures.value c.in_ok-span.ensures.place) c.in-Ok.ensures.in_place in
    (w.0, omega (arith, w.1, c.requires.fits))

pub returns-in-Some-clause-place : goal.returns-in-Some-clause-place
returns-in-Some-clause-place c =
    let w = again_within c.args.text.now _ _ (again_in _ _ _ c.in-Some.span c.in-Some.is c.deref.ensures.value c.in_ok-span.ensures.place) c.in-Ok.ensures.in_place in
    subst (IsSpanWithin (c.args.offset + length c.args.text.now)) (sym c.moved_span.ensures) (omega (arith, w.0), omega (arith, w.1))

pub returns-in-Some-clause-tells : goal.returns-in-Some-clause-tells
returns-in-Some-clause-tells c =
    second_printing c.args.limits c.args.offset c.args.text.now _ c.in-Some.span _ (again_in _ _ _ c.in-Some.span c.in-Some.is c.deref.ensures.value c.in_ok-span.ensures.place)
    c.in-Ok.ensures.found c.in-Ok.ensures.in_place c.moved_span.ensures
