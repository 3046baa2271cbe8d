pub mod State
pub mod Written
pub mod Round
pub mod Calls
