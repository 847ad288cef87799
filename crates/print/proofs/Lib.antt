pub mod Putting
pub mod Digits
pub mod Placing
