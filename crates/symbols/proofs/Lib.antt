pub mod Texts
pub mod Examples
pub mod Same
pub mod Records
