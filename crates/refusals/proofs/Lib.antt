pub mod Next
pub mod Stops
pub mod Refusing
pub mod Explains
pub mod Exactly
pub mod Events
pub mod Cuts
pub mod When
