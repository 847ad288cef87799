pub mod Reading
pub mod Steps
