pub mod Rows
pub mod Longest
pub mod Sets
pub mod Code
