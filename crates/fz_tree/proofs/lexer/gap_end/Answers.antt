use Rattle.std.proofs.Common.{arith, sym, ◌∙◌}
use Rattle.std.proofs.lemmas.List.{take_rest, length-drop}
use Rattle.fz_tree.specs.Lexing.{nothing}
use Rattle.fz_tree.proofs.Cuts.{gap_then_blank, gap_then_comment}
use Rattle.fz_tree.proofs.lexer.gap_end.Goals as goal

pub loop-place-init : goal.loop-place-init
loop-place-init c = record { after = omega arith; within = c.requires; gap = nothing c.args.from }

pub loop-place-preserved-then-is_blank : goal.loop-place-preserved-then-is_blank
loop-place-preserved-then-is_blank c = record {
  after = omega arith;
  within = omega arith;
  gap = gap_then_blank c.args.source.now c.args.from c.loop-place.place c.loop-place.invariant.gap (omega arith) (sym c.is_blank.ensures ∙ c.if-is_blank.true);
}

pub loop-place-preserved : goal.loop-place-preserved
loop-place-preserved c =
    let source = c.args.source.now in
    let value = rw take_rest at c.comment_len-place.ensures.value in
    let within = rw take_rest at c.comment_len-place.ensures.within in
    record {
      after = omega arith;
      within = omega (arith, length-drop c.loop-place.place source);
      gap = gap_then_comment source c.args.from c.loop-place.place c.comment_len-place.result c.loop-place.invariant.gap (omega arith) value;
    }
