use Rattle.std.proofs.Common.{◌≡◌, ◌∙◌, Some, ap, inl, inr, subst, sym, arith}
use Rattle.std.proofs.lemmas.Int.{ints}
use Rattle.fz_bounds.specs.Bounds.{IsInside, narrowed}
use Rattle.fz_bounds.specs.of_model.Meaning.{value_at, whole}
use Rattle.fz_bounds.proofs.Numbers.{fixed_inside}
use Rattle.fz_search.specs.Tree.{IsInBranch, undone}
use Rattle.fz_search.proofs.Nodes.{back_again, put_so}
use Rattle.fz_search.proofs.tree.enter.Goals as goal

pub returns-in-Part : goal.returns-in-Part
returns-in-Part c =
    let B = c.args.bounds.now in
    let n = c.args.variable in
    let is = put_so B c.narrow.new.self n c.in-Part.ends _ _ c.narrow.ensures.exact (omega (arith, ints)) (omega (arith, ints)) in
    record {
      parted = λ A there. inl (subst (λ D. IsInside D A) (sym is) (subst (IsInBranch A B n) c.in-Part.is there));
      back = λ was. ap (λ D. undone D n was) is ∙ back_again B n _ _ was;
    }

pub returns-in-Some : goal.returns-in-Some
returns-in-Some c =
    let B = c.args.bounds.now in
    let n = c.args.variable in
    let v = c.in_ok-value-in-Subsets.value in
    let settled = c.in_ok-settle-in-Subsets.ensures.settled in
    record {
      parted = λ A there.
          let (inside, among) = subst (IsInBranch A B n) c.in-Subsets.is there in
          elim (c.in-Some.ensures (value_at (whole A) n) among) [
            | inl first ↦ inl (fixed_inside A B c.settle.new.self n v settled (first ∙ ap Some (sym c.in_ok-value-in-Subsets.ensures)) inside)
            | inr others ↦ inr (inside, others)
          ];
      back = λ was. ap (λ D. undone D n was) settled ∙ back_again B n _ _ was;
    }

pub returns : goal.returns
returns c =
    let B = c.args.bounds.now in
    let n = c.args.variable in
    let v = c.in_ok-value-in-Subsets.value in
    let settled = c.in_ok-settle-in-Subsets.ensures.settled in
    record {
      parted = λ A there.
          let (inside, among) = subst (IsInBranch A B n) c.in-Subsets.is there in
          elim (c.in-None.ensures (value_at (whole A) n) among) [
            | inl first ↦ inl (fixed_inside A B c.settle.new.self n v settled (first ∙ ap Some (sym c.in_ok-value-in-Subsets.ensures)) inside)
            | inr none ↦ absurd none
          ];
      back = λ was. ap (λ D. undone D n was) settled ∙ back_again B n _ _ was;
    }
