pub mod Before
pub mod Chosen
pub mod Followed
pub mod Terms
pub mod Weighed
pub mod Windowed
pub mod Zipped
