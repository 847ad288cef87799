pub mod Powers
pub mod Jets
pub mod Checks
pub mod Code
