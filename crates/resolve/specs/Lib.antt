pub mod Resolved
pub mod Words
pub mod Turns
