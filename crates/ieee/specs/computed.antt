pub mod Ieee754
pub mod LanguageQuotient
pub mod RootOrder
pub mod RootPinned
