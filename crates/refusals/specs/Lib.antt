pub mod Refuses
pub mod Events
pub mod Cuts
pub mod When
