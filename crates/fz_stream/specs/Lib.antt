pub mod Parts
pub mod Faults
pub mod Moving
pub mod Telling
pub mod Broken
pub mod Found
pub mod Splitting
pub mod Lending
pub mod Hashing
pub mod Step
pub mod Keeping
pub mod Inside
pub mod Laws
pub use Rattle.fz_syntax.specs as of_syntax
