use Rattle.std.proofs.Common.{◌≡◌, ◌-◌, FitsSigned, w64, List, ◌++◌, length, drop, take, length-drop, sym, ◌∙◌, arith}
use Rattle.std.proofs.lemmas.Int.{ints, to_z-of_z}
use Rattle.std.proofs.lemmas.List.{take_all, take-append-drop}
use Rattle.fz_base.specs.declared.ranges.Range.{Range}
use Rattle.fz_base.specs.Ranges.{lowest}
use Rattle.fz_base.proofs.Covers.{nowhere, front_in_order, others_in_order, covers_front, covers_first, covers_others}
use Rattle.fz_base.proofs.ranges.is_covered.Goals as goal

pub halving-preserved-then-number-middle : goal.halving-preserved-then-number-middle
halving-preserved-then-number-middle c =
    let fits : FitsSigned w64 c.args.number = c.ranges.number in
    let cut : c.halving.rest.now ≡ c.split_at.result.0.now ++ c.split_at.result.1.now = rw (c.split_at.ensures.front, c.split_at.ensures.back) (sym (take-append-drop _ _)) in
    simp to_z-of_z (record {
      in_order = front_in_order lowest c.args.number _ _ _ nowhere cut c.in-len1-up.len_at_least c.halving.invariant.in_order;
      same = covers_front lowest c.args.number _ _ _ nowhere cut c.in-len1-up.len_at_least c.halving.invariant.in_order (omega (arith, ints)) ∙ (simp to_z-of_z at c.halving.invariant.same);
    })

pub returns-then-number-middle-2 : goal.returns-then-number-middle-2
returns-then-number-middle-2 c =
    let fits : FitsSigned w64 c.args.number = c.ranges.number in
    let cut : c.halving.rest.now ≡ c.split_at.result.0.now ++ c.split_at.result.1.now = rw (c.split_at.ensures.front, c.split_at.ensures.back) (sym (take-append-drop _ _)) in
    sym (covers_first lowest c.args.number _ _ _ nowhere cut c.in-len1-up.len_at_least c.halving.invariant.in_order (omega (arith, ints)) (omega (arith, ints)))
    ∙ (simp to_z-of_z at c.halving.invariant.same)

pub halving-preserved : goal.halving-preserved
halving-preserved c =
    let fits : FitsSigned w64 c.args.number = c.ranges.number in
    let cut : c.halving.rest.now ≡ c.split_at.result.0.now ++ c.split_at.result.1.now = rw (c.split_at.ensures.front, c.split_at.ensures.back) (sym (take-append-drop _ _)) in
    let back : List Range = c.split_at.result.1.now in
    let whole : take (length back - 1) (drop 1 back) ≡ drop 1 back = take_all (length back - 1) (drop 1 back) (omega (arith, length-drop 1 back)) in
    rw whole (simp to_z-of_z (record {
      in_order = others_in_order lowest c.args.number _ _ _ nowhere cut c.in-len1-up.len_at_least c.halving.invariant.in_order;
      same = covers_others lowest c.args.number _ _ _ nowhere cut c.in-len1-up.len_at_least c.halving.invariant.in_order (omega (arith, ints)) (omega (arith, ints)) ∙ (simp to_z-of_z at c.halving.invariant.same);
    }))
