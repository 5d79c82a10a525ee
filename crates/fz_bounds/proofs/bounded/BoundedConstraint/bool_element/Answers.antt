use Rattle.std.proofs.Common.{◌≡◌, ◌+◌, suc, Bool, pos, true, false, ap, sym, slice_get, Some, ◌∙◌, add-one, arith, rules}
use borrow.Author.Count.{below_more}
use Rattle.fz_model.specs.Relations.{◌=ℤ◌, ◌=ᴮ◌}
use Rattle.fz_model.specs.of_builtins.of_kernel.Given.{bool_at, bools_at, int_at}
use Rattle.fz_model.proofs.Values.{int_itself}
use Rattle.fz_bounds.specs.Within.{given}
use Rattle.fz_bounds.proofs.Indexed.{never_both, no_element}
use Rattle.fz_bounds.proofs.Lists.{truth_within}
use Rattle.fz_bounds.proofs.bounded.BoundedConstraint.bool_element.Goals as goal

pub loop-place-preserved : goal.loop-place-preserved
loop-place-preserved c = λ K f g h.
    let xs = given c.args.self.now in
    let p = c.loop-place.place in
    let a = int_at K xs 0 in
    below_more (λ i. (b : Bool) → slice_get (bools_at K xs 1) i ≡ Some b → a ≡ pos (suc i) → (b =ᴮ bool_at K xs 2) ≡ false) p (c.loop-place.invariant K f g h) (λ b at is.
    let test : (a =ℤ pos (p + 1)) ≡ true = ap (λ z. z =ℤ pos (p + 1)) (is ∙ ap pos (sym (add-one p))) ∙ int_itself (pos (p + 1)) in
    never_both c.and.result (a =ℤ pos (p + 1)) (b =ᴮ bool_at K xs 2) (search rules)
    (c.and.ensures (a =ℤ pos (p + 1)) (b =ᴮ bool_at K xs 2) (c.equal-here.ensures a (pos (p + 1)) (c.number.ensures K f) c.index.ensures)
    (c.same-same.ensures b (bool_at K xs 2) (c.truth_at.ensures K g b at) (c.truth.ensures K h))) test)

pub returns : goal.returns
returns c = λ K f g h.
    let xs = given c.args.self.now in
    no_element ◌=ᴮ◌ (int_at K xs 0) (bools_at K xs 1) (bool_at K xs 2)
    (λ i b at is. let within = truth_within K xs 1 i b at in c.loop-place.invariant K f g h i (omega arith) b at is)
