pub mod Roots
pub mod Access
