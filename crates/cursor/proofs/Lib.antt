pub mod Laws
pub mod Steps
pub mod Reached
pub mod Meets
pub mod Entries
