pub mod CarrySave
pub mod Recurrence
pub mod Step
pub mod computed
