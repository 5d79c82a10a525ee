use Rattle.std.proofs.Common.{◌≡◌, drop}
use Rattle.std.specs.Prelude.{int_lt}
use Rattle.fz_kernel.specs.of_meaning.Relations.{◌=ℤ◌, is_before}
use Rattle.fz_kernel.specs.Views.{ints}
use Rattle.fz_scheduling.proofs.lexical.ints_are_before.Given as goal

abbrev pub invariant-loop-place : goal.invariant-loop-place
invariant-loop-place l = is_before int_lt ◌=ℤ◌ (ints l.a) (ints l.b) ≡ is_before int_lt ◌=ℤ◌ (drop l.place (ints l.a)) (drop l.place (ints l.b))
