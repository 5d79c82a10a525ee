-- The arguments that a view reads, by their indices, counted from 0.
use Rattle.std.specs.Prelude.{ℕ, ℤ, Bool, List}
use Rattle.fz_globals.specs.of_meaning.of_base.Sets.{NumberSet}
use Rattle.fz_globals.specs.of_kernel.declared.view.ArgumentView.{ArgumentView}
use Rattle.fz_globals.specs.of_kernel.Views.{arguments_of, assigned}
use Rattle.fz_globals.specs.of_kernel.Given.{int_at, bool_at, set_at, ints_at, bools_at, sets_at}

abbrev pub int : ArgumentView → ℕ → ℤ
int s i = int_at (assigned s) (arguments_of s) i

abbrev pub truth : ArgumentView → ℕ → Bool
truth s i = bool_at (assigned s) (arguments_of s) i

abbrev pub numbers : ArgumentView → ℕ → NumberSet
numbers s i = set_at (assigned s) (arguments_of s) i

abbrev pub ints : ArgumentView → ℕ → List ℤ
ints s i = ints_at (assigned s) (arguments_of s) i

abbrev pub truths : ArgumentView → ℕ → List Bool
truths s i = bools_at (assigned s) (arguments_of s) i

abbrev pub sets_of : ArgumentView → ℕ → List NumberSet
sets_of s i = sets_at (assigned s) (arguments_of s) i
