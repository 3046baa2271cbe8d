pub mod Meeting
pub mod Find
pub mod Counting
pub mod Search
