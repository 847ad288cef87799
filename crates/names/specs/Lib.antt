pub mod Names
pub mod Uses
pub mod Held
pub mod Code
