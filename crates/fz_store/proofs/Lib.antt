pub mod Finds
pub mod Points
pub mod FindsKinds
pub mod Loops
pub mod Tabled
pub mod NameTable
pub mod Noted
pub use Rattle.fz_meaning.proofs as of_meaning
