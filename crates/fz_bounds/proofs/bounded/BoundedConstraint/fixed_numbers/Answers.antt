use Rattle.std.proofs.Common.{◌≡◌, ◌+◌, ◌++◌, ◌∷◌, [], ◌<◌, FitsSigned, Some, ap, length, subst, sym, w64, ◌∙◌, arith, rules}
use Rattle.std.proofs.lemmas.Int.{to_z-of_z}
use Rattle.fz_model.specs.of_builtins.of_kernel.Given.{ints_at, slots_at}
use Rattle.fz_bounds.specs.Within.{given}
use Rattle.fz_bounds.proofs.Lists.{is_there}
use Rattle.fz_bounds.proofs.Picked.{IsPickedSoFar, all_picked, not_picked, picked_too}
use Rattle.fz_bounds.proofs.bounded.BoundedConstraint.fixed_numbers.Goals.{in-Some+in_ok-push, in_default}
use Rattle.fz_bounds.proofs.bounded.BoundedConstraint.fixed_numbers.Goals as goal

pub loop-place-preserved : goal.loop-place-preserved
loop-place-preserved c = λ K f.
    let xs = given c.args.self.now in
    let ns = ints_at K xs c.args.array in
    let i = c.loop-place.place in
    let items = c.loop-place.numbers.items in
    let within : i < length (slots_at xs c.args.array) = omega arith in
    let (n, at) = is_there K xs c.args.array i within in
    elim c.match-only_at.branch [
      | in-Some+in_ok-push w ↦
          let number = w.in-Some.number in
          let fits : FitsSigned w64 number = search rules in
          let is : n ≡ number = w.in-Some.ensures K f n at in
          let pushed : w.push.new.self.items ≡ (items ++ number ∷ []) = simp to_z-of_z at w.in_ok-push.ensures.items in
          subst (λ l. IsPickedSoFar l (i + 1) ns) (sym (ap (λ v. v.items) w.numbers-is ∙ pushed)) (picked_too items ns i number (at ∙ ap Some is) (c.loop-place.invariant K f))
      | in_default w ↦
          subst (λ l. IsPickedSoFar l (i + 1) ns) (sym (ap (λ v. v.items) w.numbers-is)) (not_picked items ns i n at (c.loop-place.invariant K f))
    ]

pub returns : goal.returns
returns c = λ K f.
    all_picked c.loop-place.numbers.items (ints_at K (given c.args.self.now) c.args.array) c.loop-place.place (c.loop-place.invariant K f)
