pub mod Lines
pub mod Annotations
pub mod Elements
pub mod Paths
pub mod Segments
pub mod Tables
