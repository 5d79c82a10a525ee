pub mod Arranging
pub mod SetRows
pub mod Fails
