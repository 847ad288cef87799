pub mod Tree
pub mod Rule
pub mod Grammar
pub mod Part
pub mod Recorded
pub mod Places
pub mod Derives
