pub use Rattle.fz_bounds.specs.of_model
pub mod Claims
pub mod Found
pub mod Subsets
pub mod Tree
