pub mod Plot
pub mod Visits
