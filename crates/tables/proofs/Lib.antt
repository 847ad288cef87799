pub mod Words
pub mod Zeros
pub mod Laws
pub mod Filled
pub mod Reading
