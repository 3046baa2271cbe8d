pub mod Levels
pub mod Following
pub mod Explain
