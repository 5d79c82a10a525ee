pub mod Fitting
pub mod Tells
pub mod Stands
pub mod Added
pub mod Knows
pub mod Loops
pub mod Next
pub mod OneMore
pub mod OwnKinds
pub mod Loaded
pub mod RestOfText
pub mod Grown
pub mod Flat
pub use Rattle.fz_store.proofs.of_meaning
pub use Rattle.fz_store.proofs as of_store
