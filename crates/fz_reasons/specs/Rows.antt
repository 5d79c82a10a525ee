-- What the definitions and laws of this crate cite of rows and their arguments.
pub use Rattle.fz_builtins.specs.of_meaning.declared.builtin.Builtin.{Builtin}
unfoldable pub use Rattle.fz_builtins.specs.of_meaning.Builtins.{row_at}
pub use Rattle.fz_builtins.specs.of_meaning.Meaning.{Argument, Partial}
pub use Rattle.fz_builtins.specs.of_kernel.Given.{bool_at, bools_at, bools_of, int_at, ints_at, ints_of, set_at, sets_at, slots_at}
unfoldable pub use Rattle.fz_builtins.specs.Outcomes.{row_outcome}
pub use Rattle.fz_builtins.specs.Outcomes.{reads_beyond, sum_outcome}
