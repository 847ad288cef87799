pub mod Names
pub mod Tables
pub mod Holds
pub mod Bridge
pub mod Turning
pub mod Running
pub mod Parents
pub mod Ends
