pub mod Differences
pub mod Lines
pub mod Reports
