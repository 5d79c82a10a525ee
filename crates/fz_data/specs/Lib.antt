pub mod Fitting
pub mod Scope
pub mod Posting
pub mod Stands
pub mod Texts
pub use Rattle.fz_store.specs.of_meaning
pub use Rattle.fz_store.specs as of_store
