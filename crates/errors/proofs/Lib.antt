pub mod Adding
pub mod Weights
pub mod Fits
pub mod NoneLost
pub mod Examples
