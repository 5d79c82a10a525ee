pub mod Located
pub mod Relations
pub mod Builtins
pub mod Results
pub mod Meaning
pub mod Names
pub mod View
pub mod Steps
pub mod Laws
pub mod Known
pub mod TableData
pub mod States
pub use Rattle.fz_tree.specs as of_tree
pub use Rattle.fz_base.specs as of_base
