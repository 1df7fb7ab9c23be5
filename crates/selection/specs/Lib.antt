pub mod Word
pub mod Cell
pub mod Table
pub mod Maker
pub mod Answer
pub mod Repair
pub mod Demand
pub mod computed
