pub use Rattle.fz_bounds.proofs.of_model
pub mod Nodes
pub mod Codes
