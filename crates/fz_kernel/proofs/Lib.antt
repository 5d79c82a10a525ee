pub mod Different
pub mod Left
pub mod Added
pub mod Best
pub mod Passed
pub mod Read
pub mod Between
pub mod Kept
pub mod Shapes
pub mod Ready
pub mod Sums
pub mod Standing
pub use Rattle.fz_store.proofs as of_store
pub use Rattle.fz_store.proofs.of_meaning
