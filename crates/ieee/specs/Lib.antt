pub mod LanguageQuotient
pub mod Directions
pub mod RootDirections
pub mod computed
