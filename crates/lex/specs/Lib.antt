pub mod Code
pub mod Tokens
pub mod Tiles
