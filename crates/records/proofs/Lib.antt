pub mod Choices
pub mod Determined
pub mod Widths
pub mod Pairs
