pub mod Indices
pub mod Parting
pub mod TableReading
pub mod Forms
