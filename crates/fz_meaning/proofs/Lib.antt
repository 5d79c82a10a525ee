mod Rows
pub mod Values
pub mod Lists
pub mod Partials
pub mod Determined
pub mod Steps
pub mod Points
pub mod Numbers
pub mod Scope
pub mod States
pub mod Powers
pub mod Places
pub mod NamedKinds
pub mod Named
pub mod FoundRows
pub mod TableRows
pub mod WithTruth
pub mod Ends
pub mod ScanSteps
pub mod KnownNames
pub mod Names
pub mod Table
pub use Rattle.fz_base.proofs as of_base
