-- Whether points hold.
use Rattle.std.specs.Prelude.{Bool, true, false}
use Rattle.fz_builtins.specs.of_meaning.declared.state.State.{State}
use Rattle.fz_builtins.specs.of_meaning.declared.state.State.TheVariants.{Holds}
use Rattle.fz_builtins.specs.of_meaning.Meaning.{Partial, Point, Posted, row_of}
use Rattle.fz_builtins.specs.of_meaning.States.{state, state_of_row}

abbrev pub is_held : State → Bool
is_held Holds = true
is_held _ = false

abbrev pub point_holds : Partial → Point → Bool
point_holds K p = is_held (state K p)

-- of a constraint (private functions only)
abbrev pub posted_holds : Partial → Posted → Bool
posted_holds K p = is_held (state_of_row K p.arguments (row_of p))
