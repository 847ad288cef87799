pub mod Steps
pub mod Going
pub mod Answers
pub mod Tiling
pub mod Examples
