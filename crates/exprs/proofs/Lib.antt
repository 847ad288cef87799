pub mod Trees
pub mod Parses
pub mod Once
