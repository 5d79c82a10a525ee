pub mod NameLemmas
pub mod PartLemmas
pub mod OnePartLemmas
pub mod SoFar
pub mod SplitLemmas
pub mod StepLemmas
pub mod EndLemmas
pub mod TakeLemmas
pub mod FaultLemmas
pub use Rattle.fz_syntax.proofs as of_syntax
