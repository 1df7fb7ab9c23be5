pub mod Arguments
pub mod Decimals
pub mod Signs
pub mod Texts
