pub mod Example
pub mod Listing
