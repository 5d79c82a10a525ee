pub mod RowTests
pub mod ElementReadings
pub mod FormOutcomes
pub mod Failing
pub use Rattle.fz_globals.proofs.of_kernel
pub use Rattle.fz_globals.proofs.of_store
pub use Rattle.fz_globals.proofs.of_meaning
pub use Rattle.fz_globals.proofs as of_globals
pub use Rattle.fz_scheduling.proofs as of_scheduling
