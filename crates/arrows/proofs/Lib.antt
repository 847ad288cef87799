pub mod Arrows
pub mod Once
