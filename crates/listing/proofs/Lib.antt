pub mod Room
pub mod Texts
