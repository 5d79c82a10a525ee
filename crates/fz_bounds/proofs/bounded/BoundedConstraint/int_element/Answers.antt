use Rattle.std.proofs.Common.{◌≡◌, ◌+◌, suc, ℤ, pos, true, false, ap, sym, slice_get, Some, ◌∙◌, add-one, arith, rules}
use borrow.Author.Count.{below_more}
use Rattle.fz_model.specs.Relations.{◌=ℤ◌}
use Rattle.fz_model.specs.of_builtins.of_kernel.Given.{int_at, ints_at}
use Rattle.fz_model.proofs.Values.{int_itself}
use Rattle.fz_bounds.specs.Within.{given}
use Rattle.fz_bounds.proofs.Indexed.{never_both, no_element}
use Rattle.fz_bounds.proofs.Lists.{is_within}
use Rattle.fz_bounds.proofs.bounded.BoundedConstraint.int_element.Goals as goal

pub loop-place-preserved : goal.loop-place-preserved
loop-place-preserved c = λ K f g h.
    let xs = given c.args.self.now in
    let p = c.loop-place.place in
    let a = int_at K xs 0 in
    below_more (λ i. (n : ℤ) → slice_get (ints_at K xs 1) i ≡ Some n → a ≡ pos (suc i) → (n =ℤ int_at K xs 2) ≡ false) p (c.loop-place.invariant K f g h) (λ n at is.
    let test : (a =ℤ pos (p + 1)) ≡ true = ap (λ z. z =ℤ pos (p + 1)) (is ∙ ap pos (sym (add-one p))) ∙ int_itself (pos (p + 1)) in
    never_both c.and.result (a =ℤ pos (p + 1)) (n =ℤ int_at K xs 2) (search rules)
    (c.and.ensures (a =ℤ pos (p + 1)) (n =ℤ int_at K xs 2) (c.equal-here.ensures a (pos (p + 1)) (c.number.ensures K f) c.index.ensures)
    (c.equal-same.ensures n (int_at K xs 2) (c.number_at.ensures K g n at) (c.number-in-loop-place.ensures K h))) test)

pub returns : goal.returns
returns c = λ K f g h.
    let xs = given c.args.self.now in
    no_element ◌=ℤ◌ (int_at K xs 0) (ints_at K xs 1) (int_at K xs 2)
    (λ i n at is. let within = is_within K xs 1 i n at in c.loop-place.invariant K f g h i (omega arith) n at is)
