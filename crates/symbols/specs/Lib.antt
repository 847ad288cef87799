pub mod Symbols
pub mod Texts
