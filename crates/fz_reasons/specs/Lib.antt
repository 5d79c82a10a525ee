pub mod Rows
pub mod Elements
pub mod Reasons
