pub mod Steps
pub mod OneLine
pub mod Once
