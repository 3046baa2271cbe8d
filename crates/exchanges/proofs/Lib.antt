pub mod Both
pub mod Carrying
pub mod Entries
pub mod Pairs
pub mod Answers
pub mod Exchanging
pub mod Answered
pub mod Cases
