pub mod Errors
pub mod Code
