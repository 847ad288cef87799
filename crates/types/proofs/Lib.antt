pub mod Heads
pub mod Atoms
pub mod Chain
pub mod Steps
pub mod Once
