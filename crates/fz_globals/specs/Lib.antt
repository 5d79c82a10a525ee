pub mod Tests
pub mod Held
pub mod Keys
pub use Rattle.fz_kernel.specs as of_kernel
pub use Rattle.fz_kernel.specs.of_store
pub use Rattle.fz_kernel.specs.of_meaning
