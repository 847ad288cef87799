pub mod Room
pub mod Pieces
pub mod Single
pub mod Many
pub mod Held
