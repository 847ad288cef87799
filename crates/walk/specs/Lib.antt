pub mod Walk
pub mod Machine
pub mod Trees
pub mod Nodes
pub mod Stands
pub mod Demand
