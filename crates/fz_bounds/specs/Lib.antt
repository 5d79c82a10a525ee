pub mod Bounds
pub mod Ends
pub mod Decided
pub mod Between
pub mod Within
pub mod Spans
pub mod Picked
pub mod Opened
pub use Rattle.fz_model.specs as of_model
