pub mod Powers
pub mod Lines
pub mod Edges
pub mod Jets
pub mod Examples
