pub mod Packed
pub mod Examples
