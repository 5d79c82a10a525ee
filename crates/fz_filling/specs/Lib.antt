pub mod View
pub mod Judged
pub mod Working
pub mod Filling
pub mod Verdict
pub mod Completed
pub mod Laws
pub mod BlockFaults
pub mod Solutions
pub mod Stepping
pub mod Courses
pub mod Givers
pub use Rattle.fz_index.specs.of_model
pub use Rattle.fz_stream.specs as of_stream
pub use Rattle.fz_stream.specs.of_syntax
