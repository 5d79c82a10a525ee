use Rattle.std.proofs.Common.{◌∙◌, ap, get_or, of_z, to_z, pos, w64, arith}
use Rattle.std.proofs.lemmas.Int.{ints}
use Rattle.fz_search.proofs.Codes.{kept_here, kept_not}
use Rattle.fz_search.proofs.subsets.kept_of.Goals as goal
use Rattle.fz_search.proofs.subsets.kept_of.Goals.{then-bits-eq0+in_ok-push, else-bits-eq0}

pub loop-number-preserved : goal.loop-number-preserved
loop-number-preserved c =
    let l = c.loop-number in
    elim c.if-bits-eq0.branch [
      | then-bits-eq0+in_ok-push w ↦ kept_here _ l.kept.items c.if-bits-eq0.kept.items c.args.numbers.now l.number-index l.bits (omega arith) l.invariant (to_z w64 (of_z w64 (get_or c.args.numbers.now l.number-index (pos 0)))) w.if-bits-eq0.true (ap (λ v. v.items) w.kept-is ∙ w.in_ok-push.ensures.items) (omega (arith, ints))
      | else-bits-eq0 w ↦ kept_not _ l.kept.items c.if-bits-eq0.kept.items c.args.numbers.now l.number-index l.bits (omega arith) l.invariant w.if-bits-eq0.false (ap (λ v. v.items) w.kept-is)
    ]
