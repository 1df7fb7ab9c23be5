pub mod Points
pub mod BadCells
pub mod Verdicts
