pub mod Indices
pub mod Given
pub mod Views
pub mod Arguments
pub use Rattle.fz_store.specs as of_store
pub use Rattle.fz_store.specs.of_meaning
