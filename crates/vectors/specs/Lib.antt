pub mod Report
pub mod Vectors
