pub mod Longest
pub mod Arms
pub mod Sizes
