pub mod Chars
pub mod Laws
pub mod Places
pub mod Declared
pub mod Examples
