pub mod Text
pub mod Argument
pub mod Input
