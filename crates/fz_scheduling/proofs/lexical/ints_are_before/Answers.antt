use Rattle.std.proofs.Common.{◌≤◌, ◌⊎◌, int_lt, length, ltb, ap₂, ◌∙◌, arith}
use Rattle.fz_kernel.specs.of_meaning.Relations.{◌=ℤ◌, is_before}
use Rattle.fz_kernel.specs.Views.{ints}
use Rattle.fz_kernel.proofs.Left.{one_ends}
use Rattle.fz_scheduling.proofs.Before.{ends}
use Rattle.fz_scheduling.proofs.lexical.ints_are_before.Goals as goal

pub returns : goal.returns
returns c =
    let xs = ints c.args.a.now in
    let ys = ints c.args.b.now in
    let i = c.loop-place.place in
    let ended : (length xs ≤ i) ⊎ (length ys ≤ i) = one_ends (length xs) (length ys) c.min-place-end.result i (omega arith) (omega arith) in
    record {
      exact = ap₂ ltb c.number_count-3.ensures c.number_count-4.ensures
          ∙ ends int_lt ◌=ℤ◌ xs ys i (is_before int_lt ◌=ℤ◌ xs ys) c.loop-place.invariant (omega arith) (omega arith) ended;
    }
