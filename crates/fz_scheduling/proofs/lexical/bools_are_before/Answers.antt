use Rattle.std.proofs.Common.{◌≤◌, ◌⊎◌, not, ◌&&◌, length, ltb, ap₂, ◌∙◌, arith}
use Rattle.fz_kernel.specs.of_meaning.Relations.{◌=ᴮ◌, is_before}
use Rattle.fz_kernel.specs.Views.{bools}
use Rattle.fz_kernel.proofs.Left.{one_ends}
use Rattle.fz_scheduling.proofs.Before.{ends}
use Rattle.fz_scheduling.proofs.lexical.bools_are_before.Goals as goal

pub returns : goal.returns
returns c =
    let xs = bools c.args.a.now in
    let ys = bools c.args.b.now in
    let i = c.loop-place.place in
    let ended : (length xs ≤ i) ⊎ (length ys ≤ i) = one_ends (length xs) (length ys) c.min-place-end.result i (omega arith) (omega arith) in
    record {
      exact = ap₂ ltb c.truth_count-3.ensures c.truth_count-4.ensures
          ∙ ends (λ x y. not x && y) ◌=ᴮ◌ xs ys i (is_before (λ x y. not x && y) ◌=ᴮ◌ xs ys) c.loop-place.invariant (omega arith) (omega arith) ended;
    }
