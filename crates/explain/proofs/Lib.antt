pub mod Levels
pub mod Following
pub mod Summing
pub mod ByValue
pub mod Writes
pub mod Unchanged
pub mod Answered
pub mod Cases
