pub mod Parts
pub mod Declarations
pub mod Kinds
pub mod Layout
pub mod Shown
pub mod Partial
pub mod Slots
pub mod Naming
pub mod Names
pub mod Numbered
pub use Rattle.fz_meaning.specs as of_meaning
