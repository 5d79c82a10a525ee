pub mod Readings
pub mod Outcomes
pub mod Said
pub use Rattle.fz_globals.specs.of_kernel
pub use Rattle.fz_globals.specs.of_store
pub use Rattle.fz_globals.specs.of_meaning
pub use Rattle.fz_globals.specs as of_globals
pub use Rattle.fz_scheduling.specs as of_scheduling
