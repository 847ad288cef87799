pub mod Tokens
pub mod Cursor
