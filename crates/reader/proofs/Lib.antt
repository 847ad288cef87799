pub mod Answers
pub mod Fits
pub mod Steps
pub mod Whole
