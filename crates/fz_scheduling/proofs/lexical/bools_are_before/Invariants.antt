use Rattle.std.proofs.Common.{◌≡◌, ◌&&◌, drop, not}
use Rattle.fz_kernel.specs.of_meaning.Relations.{◌=ᴮ◌, is_before}
use Rattle.fz_kernel.specs.Views.{bools}
use Rattle.fz_scheduling.proofs.lexical.bools_are_before.Given as goal

abbrev pub invariant-loop-place : goal.invariant-loop-place
invariant-loop-place l =
    is_before (λ x y. not x && y) ◌=ᴮ◌ (bools l.a) (bools l.b)
    ≡ is_before (λ x y. not x && y) ◌=ᴮ◌ (drop l.place (bools l.a)) (drop l.place (bools l.b))
