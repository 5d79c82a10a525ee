use Rattle.std.proofs.Common.{refl, length, map, ◌≡◌, sym, ap, ◌∙◌, subst, arith}
use Rattle.std.proofs.lemmas.List.{map_push, length-map, take_rest}
use Rattle.std.proofs.lemmas.Result.{err_from_is_err_and, IfErr-weaker}
use Rattle.fz_syntax.specs.Places.{standard_limits}
use Rattle.fz_syntax.specs.View.{bare_items}
use Rattle.fz_stream.specs.Found.{block_of, HasPlaces, EndsWithin, IsStreamText}
use Rattle.fz_stream.proofs.PartLemmas.{every_append}
use Rattle.fz_stream.proofs.SoFar.{start_so_far, so_far_goes_on, so_far_block, so_far_claim, so_far_read, so_far_stops_at_block, so_far_stops_at_claim, so_far_stops_at_end, so_far_text_within, read_in_order, read_before_markers}
use Rattle.fz_stream.proofs.OnePartLemmas.{stops_no_text}
use Rattle.fz_stream.specs.Parts.{IsBlockText}
use Rattle.fz_stream.specs.Step.{step_of, IsLineFault}
use Rattle.fz_stream.specs.declared.error.StreamError.TheVariants.{TooLong}
use Rattle.fz_stream.proofs.reading.blocks.Goals as goal
use Rattle.fz_stream.proofs.reading.blocks.Goals.{in-GoesOn, in-EndsBlock+in_ok-block-in-EndsBlock+in_ok-push-in-EndsBlock, in-Claims+in_ok-push-in-Claims}

pub loop-at-init : goal.loop-at-init
loop-at-init c = record {
  so_far = rw (c.new-blocks.ensures.items, c.new-claims.ensures.items) (start_so_far c.args.stream.now);
  places = rw c.new-blocks.ensures.items tt;
  within = rw c.new-blocks.ensures.items tt;
}

pub returns-in_err-block-in-EndsBlock-clause-too_long :
    goal.returns-in_err-block-in-EndsBlock-clause-too_long
returns-in_err-block-in-EndsBlock-clause-too_long c =
    let p = err_from_is_err_and c.from_residual.result c.from_residual.ensures.1 in (
      λ h. (
          let same : p.0 ≡ TooLong = cc in
          absurd (subst IsLineFault (sym p.2 ∙ same) c.in_err-block-in-EndsBlock.ensures.fault)),
      λ long. absurd (omega (arith, long)),
    )

pub loop-at-preserved : goal.loop-at-preserved
loop-at-preserved c =
    elim c.match-after_line.branch [
      | in-GoesOn w ↦ record {
        so_far = rw (w.begun-is, w.blocks-is, w.claims-is) (
            so_far_goes_on _ _ _ _ _ c.loop-at.invariant.so_far _ (take_rest c.args.stream.now c.loop-at.at) c.first_line-line.result.now c.first_line-line.ensures.within c.first_line-line.ensures.cut _
            (ap (step_of _ _) (sym c.line_kind.ensures) ∙ sym w.in-GoesOn.ensures));
        places = rw w.blocks-is c.loop-at.invariant.places;
        within = rw w.blocks-is c.loop-at.invariant.within;
      }
      | in-EndsBlock+in_ok-block-in-EndsBlock+in_ok-push-in-EndsBlock w ↦ record {
        so_far = rw (w.begun-is, w.blocks-is, w.claims-is, w.in_ok-push-in-EndsBlock.ensures.items, map_push) (
            so_far_block _ _ _ _ _ c.loop-at.invariant.so_far _ (take_rest c.args.stream.now c.loop-at.at) c.first_line-line.result.now c.first_line-line.ensures.within c.first_line-line.ensures.cut w.in-EndsBlock.start
            (ap (step_of _ _) (sym c.line_kind.ensures) ∙ sym w.in-EndsBlock.ensures) _ _ w.in_ok-block-in-EndsBlock.ensures.offset w.in_ok-block-in-EndsBlock.ensures.text
            (bare_items w.in_ok-block-in-EndsBlock.block.items.items) (subst (λ t. IsBlockText standard_limits t (bare_items w.in_ok-block-in-EndsBlock.block.items.items)) (sym w.in_ok-block-in-EndsBlock.ensures.text) w.in_ok-block-in-EndsBlock.ensures.items));
        places = rw (w.blocks-is, w.in_ok-push-in-EndsBlock.ensures.items) (every_append HasPlaces _ _ c.loop-at.invariant.places (w.in_ok-block-in-EndsBlock.ensures.places, tt));
        within = rw (w.blocks-is, w.in_ok-push-in-EndsBlock.ensures.items) (
            every_append (EndsWithin (length c.args.stream.now)) _ _ c.loop-at.invariant.within (
              so_far_text_within _ _ _ _ _ c.loop-at.invariant.so_far _ (take_rest c.args.stream.now c.loop-at.at) c.first_line-line.result.now c.first_line-line.ensures.within c.first_line-line.ensures.cut w.in-EndsBlock.start
                  (ap (step_of _ _) (sym c.line_kind.ensures) ∙ sym w.in-EndsBlock.ensures) _ _ w.in_ok-block-in-EndsBlock.ensures.offset w.in_ok-block-in-EndsBlock.ensures.text,
              tt,
            ));
      }
      | in-Claims+in_ok-push-in-Claims w ↦ record {
        so_far = rw (w.begun-is, w.blocks-is, w.claims-is, w.in_ok-push-in-Claims.ensures.items) (
            so_far_claim _ _ _ _ _ c.loop-at.invariant.so_far _ (take_rest c.args.stream.now c.loop-at.at) c.first_line-line.result.now c.first_line-line.ensures.within c.first_line-line.ensures.cut w.in-Claims.kind
            (ap (step_of _ _) (sym c.line_kind.ensures) ∙ sym w.in-Claims.ensures) _
            (let after : w.len-after.result ≡ length (map block_of c.loop-at.blocks.items) = w.len-after.ensures ∙ c.loop-at.blocks.ok.0 ∙ sym (length-map c.loop-at.blocks.items block_of) in
            λ i. record { after = after i; kind = w.in-Claims.kind }));
        places = rw w.blocks-is c.loop-at.invariant.places;
        within = rw w.blocks-is c.loop-at.invariant.within;
      }
    ]

pub returns-clause-read : goal.returns-clause-read
returns-clause-read c = so_far_read c.args.stream.now c.loop-at.at _ _ (omega (arith, c.loop-at-test.false)) c.loop-at.begun c.loop-at.invariant.so_far c.in-None.is

pub returns-clause-before_markers : goal.returns-clause-before_markers
returns-clause-before_markers c = read_before_markers _ _ _ (so_far_read c.args.stream.now c.loop-at.at _ _ (omega (arith, c.loop-at-test.false)) c.loop-at.begun c.loop-at.invariant.so_far c.in-None.is)

pub returns-clause-claims_in_order : goal.returns-clause-claims_in_order
returns-clause-claims_in_order c =
    read_in_order _ _ _ _ (so_far_read c.args.stream.now c.loop-at.at _ _ (omega (arith, c.loop-at-test.false)) c.loop-at.begun c.loop-at.invariant.so_far c.in-None.is)
    (omega (arith, c.loop-at.blocks.ok.0, length-map c.loop-at.blocks.items block_of))

pub returns-in_err-block-in-EndsBlock-clause-stops :
    goal.returns-in_err-block-in-EndsBlock-clause-stops
returns-in_err-block-in-EndsBlock-clause-stops c =
    let p = err_from_is_err_and c.from_residual.result c.from_residual.ensures.1 in
    let s = c.loop-at.invariant.so_far in
    rw (p.1, p.2) (λ known _. (
      s.parts,
      so_far_stops_at_block _ _ _ _ _ s _ (take_rest c.args.stream.now c.loop-at.at) c.first_line-line.result.now c.first_line-line.ensures.within c.first_line-line.ensures.cut c.in-EndsBlock.start (ap (step_of _ _) (sym c.line_kind.ensures) ∙ sym c.in-EndsBlock.ensures) _ _ refl refl
          (c.in_err-block-in-EndsBlock.ensures.refused known) _ c.in_err-block-in-EndsBlock.ensures.tells,
    ))

pub returns-in-Breaks-clause-stops : goal.returns-in-Breaks-clause-stops
returns-in-Breaks-clause-stops c _ _ =
    let s = c.loop-at.invariant.so_far in (
      s.parts,
      so_far_stops_at_claim _ _ _ _ _ s _ (take_rest c.args.stream.now c.loop-at.at) c.first_line-line.result.now c.first_line-line.ensures.within c.first_line-line.ensures.cut c.in-Breaks.start (ap (step_of _ _) (sym c.line_kind.ensures) ∙ sym c.in-Breaks.ensures) _ refl refl,
    )

pub returns-in-Some-clause-stops : goal.returns-in-Some-clause-stops
returns-in-Some-clause-stops c _ _ =
    (_, so_far_stops_at_end c.args.stream.now c.loop-at.at _ _ (omega (arith, c.loop-at-test.false)) c.loop-at.begun c.loop-at.invariant.so_far c.in-Some.start c.in-Some.is _ refl refl)

-- where it stops, no parts are there
pub returns-in_err-block-in-EndsBlock-clause-refused :
    goal.returns-in_err-block-in-EndsBlock-clause-refused
returns-in_err-block-in-EndsBlock-clause-refused c = IfErr-weaker c.from_residual.result _ _ (λ e stops known long. let s = stops known long in stops_no_text _ _ _ e s.1.1) (returns-in_err-block-in-EndsBlock-clause-stops c)

pub returns-in-Breaks-clause-refused : goal.returns-in-Breaks-clause-refused
returns-in-Breaks-clause-refused c known long = (let s = returns-in-Breaks-clause-stops c known long in stops_no_text _ _ _ _ s.1.1)

pub returns-in-Some-clause-refused : goal.returns-in-Some-clause-refused
returns-in-Some-clause-refused c known long = (let s = returns-in-Some-clause-stops c known long in stops_no_text _ _ _ _ s.1.1)
