pub mod Tables
pub mod Appended
pub mod Sequences
pub mod Steps
pub mod Calls
pub mod Cases
