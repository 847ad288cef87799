pub mod Literals
pub mod Code
